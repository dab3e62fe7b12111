-- How far the bytes of a recording were read.
use Rattle.wq_recording.proofs.Common.{◌≡◌, ◌≢◌, ℕ, ◌+◌, ◌-◌, ◌<◌, ◌≤◌, ◌⊎◌, List, [], ◌∷◌, ◌++◌, length, drop, Option, Some, None, IfSome, refl, sym, ap, subst}
use Rattle.wq_recording.proofs.Common.{◌∙◌, inl, inr, arith, length-append, Layout, Awaited, Lines, parts, ScriptError, Violation, Rules}
use Rattle.std.proofs.Common.{if◌then◌else◌}
use Rattle.std.proofs.Math.Seq.{drop-append-add, drop-append_seam}
use Rattle.std.proofs.lemmas.Bool.{le-leb, lt-leb}
use Rattle.std.proofs.lemmas.List.{drop_all}
use Rattle.std.proofs.lemmas.List.Elements.{All-nil}
use Rattle.std.specs.Io.KnownBytes.{IsAtEnd}
use Rattle.std.specs.Prelude.{IsSomeAnd}
use Rattle.wq_recording.specs.Checking.{IsReadThrough, IsReadToFault, unread}
use Rattle.wq_recording.specs.Lines.{EndsWithLf}
use Rattle.wq_recording.proofs.LineParts.{parts_bare, parts_front, whole_line, bare_line}
use Rattle.wq_recording.proofs.Reading.{Reads, IsReading, line_is, ends, last_is, some_part, if_known}

-- what stands behind the first that follows
behind : (before more : List (List ℕ)) (line : List ℕ) (n : ℕ) → n ≡ 1 + length before → drop n (before ++ line ∷ more) ≡ more
behind before more line n is =
    ap (λ (k : ℕ). drop k (before ++ line ∷ more)) (omega (arith, is)) ∙ drop-append-add before (line ∷ more) 1

unread_short : (line : List ℕ) (more : List (List ℕ)) → length line ≤ 4096 → more ≢ [] → unread (line ∷ more) ≡ more
unread_short line [] le some = absurd (some refl)
unread_short line (p ∷ ps) le some = ap (λ b. if b then p ∷ ps else drop 4097 line ∷ p ∷ ps) (le-leb (length line) 4096 le)

unread_long : (line : List ℕ) (more : List (List ℕ)) → 4096 < length line → unread (line ∷ more) ≡ drop 4097 line ∷ more
unread_long line [] lt = refl
unread_long line (p ∷ ps) lt = ap (λ b. if b then p ∷ ps else drop 4097 line ∷ p ∷ ps) (lt-leb (length line) 4096 lt)

module _ {A E C : Type 0} (inner : Lines A) (rules : Rules A E) (layout_of : C → Layout) (after : C → List E → Type 0) where
  module _ (known : Option (List ℕ)) (n : ℕ) (s : Awaited) (checker : Option C) (line : List ℕ) (left : Option (List ℕ))
      (reads : Reads inner rules layout_of after known n s checker line left) (violation : Option Violation) where
    abbrev IsRead : List ℕ → Type 0
    IsRead text = IsSomeAnd left (IsReadThrough violation text)

    as_left : (text ys : List ℕ) (o : Option Violation) → left ≡ Some ys → violation ≡ o → IsReadThrough o text ys → IsRead text
    as_left text ys o here is read =
        subst (λ l. IsSomeAnd l (IsReadThrough violation text)) (sym here) (subst (λ p. IsReadThrough p text ys) (sym is) read)

    pub read_to_end : violation ≡ None → ¬ EndsWithLf line → line ≡ [] → IfSome known (λ text. IsSomeAnd left (IsReadThrough violation text))
    read_to_end none bare empty =
        if_known inner rules layout_of after known n s checker line left IsRead reads
        (λ text rest r. as_left text r.behind None r.left_is none (by_end r.behind r.left_is r.got.ends))
      where
        by_end : (ys : List ℕ) → left ≡ Some ys → EndsWithLf line ⊎ ((4096 < length line) ⊎ IsAtEnd left) → ys ≡ []
        by_end ys here (inl lf) = absurd (bare lf)
        by_end ys here (inr (inl long)) = absurd (omega (arith, long, ap length empty))
        by_end ys here (inr (inr end)) = subst IsAtEnd here end

    pub read_to_violation : (at : Violation) (t : List ℕ) → violation ≡ Some at → at.line ≡ n → line ≡ t ++ 10 ∷ []
        → IfSome known (λ text. IsSomeAnd left (IsReadThrough violation text))
    read_to_violation at t is here whole =
        if_known inner rules layout_of after known n s checker line left IsRead reads
        (λ text rest r. as_left text r.behind (Some at) r.left_is is (sym (
        ap (drop at.line) (r.read.split ∙ ap (λ ps. r.read.before ++ ps) (line_is inner rules layout_of after text rest n s checker line left r t whole))
        ∙ behind r.read.before (parts r.behind) t at.line (here ∙ r.read.number))))

  module _ (text rest : List ℕ) (n : ℕ) (s : Awaited) (checker : Option C) (line : List ℕ) (left : Option (List ℕ))
      (r : IsReading inner rules layout_of after text rest n s checker line left) where
    at_fault : (e : ScriptError) → e.line ≡ n → parts r.behind ≡ unread (parts rest) → IsSomeAnd left (IsReadToFault e text)
    at_fault e here is =
        let reached : drop (e.line - 1) (parts text) ≡ parts rest =
        ap (drop (e.line - 1)) r.read.split ∙ ap (λ (k : ℕ). drop k (r.read.before ++ parts rest)) (omega (arith, here, r.read.number))
        ∙ drop-append_seam r.read.before (parts rest) in
        subst (λ l. IsSomeAnd l (IsReadToFault e text)) (sym r.left_is) (is ∙ ap unread (sym reached))

    whole_left : (t : List ℕ) → line ≡ t ++ 10 ∷ [] → parts r.behind ≡ unread (parts rest)
    whole_left t whole =
        sym (ap unread (line_is inner rules layout_of after text rest n s checker line left r t whole)
        ∙ unread_short t (parts r.behind) (whole_line line (Some rest) left r.got t whole).1 (some_part r.behind))

    bare_left : ¬ EndsWithLf line → parts r.behind ≡ unread (parts rest)
    bare_left bare = by_end (ends inner rules layout_of after text rest n s checker line left r bare)
      where
        by_end : (4096 < length line) ⊎ (r.behind ≡ []) → parts r.behind ≡ unread (parts rest)
        by_end (inr none) =
            ap parts none ∙ parts_bare [] (All-nil (λ b. b ≢ 10)) ∙ ap (λ (l : List ℕ). l ∷ []) (sym (drop_all 4097 line r.got.few))
            ∙ ap unread (sym (last_is inner rules layout_of after text rest n s checker line left r bare none))
        by_end (inl long) =
            let f = parts_front line r.behind (bare_line line (Some rest) left r.got bare) in
            let all : 4097 ≡ length line = omega (arith, long, r.got.few) in
            let cut : drop 4097 (line ++ f.0) ≡ f.0 = ap (λ (k : ℕ). drop k (line ++ f.0)) all ∙ drop-append_seam line f.0 in
            f.3 ∙ ap (λ (l : List ℕ). l ∷ f.1) (sym cut)
            ∙ sym (ap unread (ap parts r.cut ∙ f.2) ∙ unread_long (line ++ f.0) f.1 (omega (arith, long, length-append line f.0)))

  module _ (known : Option (List ℕ)) (n : ℕ) (s : Awaited) (checker : Option C) (line : List ℕ) (left : Option (List ℕ))
      (reads : Reads inner rules layout_of after known n s checker line left) (e : ScriptError) (here : e.line ≡ n) where
    pub read_to_fault : (t : List ℕ) → line ≡ t ++ 10 ∷ [] → IfSome known (λ text. IsSomeAnd left (IsReadToFault e text))
    read_to_fault t whole =
        if_known inner rules layout_of after known n s checker line left (λ text. IsSomeAnd left (IsReadToFault e text)) reads
        (λ text rest r. at_fault text rest n s checker line left r e here (whole_left text rest n s checker line left r t whole))

    pub read_to_rest : ¬ EndsWithLf line → IfSome known (λ text. IsSomeAnd left (IsReadToFault e text))
    read_to_rest bare =
        if_known inner rules layout_of after known n s checker line left (λ text. IsSomeAnd left (IsReadToFault e text)) reads
        (λ text rest r. at_fault text rest n s checker line left r e here (bare_left text rest n s checker line left r bare))
