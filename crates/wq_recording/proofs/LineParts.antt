-- What a line that was read says of the parts of a text.
use Rattle.wq_recording.proofs.Common.{◌≡◌, ◌≢◌, ℕ, ◌+◌, ◌-◌, ◌<◌, ◌≤◌, false, List, [], ◌∷◌, ◌++◌, length, take, All, Option, refl, sym}
use Rattle.wq_recording.proofs.Common.{ap, subst, ◌∙◌, arith, length-append, parts}
use Rattle.std.specs.List.{onto_first}
use Rattle.std.proofs.Common.{take_all, ne_eqb, ◌==◌}
use Rattle.std.proofs.Math.Seq.{take-append_seam}
use Rattle.std.proofs.lemmas.List.Elements.{All-nil, All-more, All-head, All-tail}
use Rattle.std.proofs.lemmas.List.Splits.{length-slice_split, slice_split_none, slice_split_at, slice_split-cons_no}
use Rattle.wq_recording.specs.Lines.{EndsWithLf, IsLineRead}

abbrev pub HasNoLf : List ℕ → Type 0
HasNoLf bytes = All (λ x. x ≢ 10) bytes

no_lf_tests : (bytes : List ℕ) → HasNoLf bytes → All (λ b. (b == 10) ≡ false) bytes
no_lf_tests bytes none k d lt = ne_eqb _ 10 (none k d lt)

pub parts_line : (text ys : List ℕ) → HasNoLf text → parts (text ++ 10 ∷ ys) ≡ text ∷ parts ys
parts_line text ys none = slice_split_at (λ b. b == 10) text 10 ys (no_lf_tests text none) refl

pub parts_bare : (bytes : List ℕ) → HasNoLf bytes → parts bytes ≡ bytes ∷ []
parts_bare bytes none = slice_split_none (λ b. b == 10) bytes (no_lf_tests bytes none)

-- bytes without an LF begin the first part, and the parts behind them are its rest and the others
pub parts_front : (front ys : List ℕ) → HasNoLf front
    → (first : List ℕ) × (behind : List (List ℕ)) × (parts (front ++ ys) ≡ (front ++ first) ∷ behind) × (parts ys ≡ first ∷ behind)
parts_front [] ys none = by_parts (parts ys) refl
  where
    by_parts : (ps : List (List ℕ)) → parts ys ≡ ps
        → (first : List ℕ) × (behind : List (List ℕ)) × (parts ys ≡ first ∷ behind) × (parts ys ≡ first ∷ behind)
    by_parts [] e = absurd (never ys e)
      where
        never : (bytes : List ℕ) → parts bytes ≡ [] → ⊥
        never bytes e = omega (arith, ap length e, length-slice_split (λ b. b == 10) bytes)
    by_parts (p ∷ ps) e = (p, ps, e, e)
parts_front (x ∷ front) ys none =
    let more = parts_front front ys (All-tail (λ b. b ≢ 10) x front none) in
    let apart : (x == 10) ≡ false = ne_eqb x 10 (All-head (λ b. b ≢ 10) x front none) in
    (more.0, more.1, slice_split-cons_no (λ b. b == 10) x (front ++ ys) apart ∙ ap (onto_first x) more.2, more.3)

module _ (line : List ℕ) (known left : Option (List ℕ)) (got : IsLineRead line known left) where
  -- a line without its LF
  pub whole_line : (text : List ℕ) → line ≡ text ++ 10 ∷ [] → HasNoLf text × (length text ≤ 4096)
  whole_line text is =
      let long : length line ≡ length text + 1 = ap length is ∙ length-append text (10 ∷ []) in
      let front : take (length line - 1) line ≡ text =
      ap (λ n. take n line) (omega (arith, long)) ∙ ap (take (length text)) is ∙ take-append_seam text (10 ∷ []) in
      (subst HasNoLf front got.stops, omega (arith, long, got.few))

  -- what no LF ends
  pub bare_line : ¬ EndsWithLf line → HasNoLf line
  bare_line not = by_length line refl
    where
      by_length : (bytes : List ℕ) → line ≡ bytes → HasNoLf line
      by_length [] e = subst HasNoLf (sym e) (All-nil (λ b. b ≢ 10))
      by_length (b ∷ bs) e =
          let some : 0 < length line = omega (arith, ap length e) in
          let all = All-more (λ x. x ≢ 10) line (length line - 1) 0 (omega (arith, some)) got.stops (λ is. not (some, is)) in
          subst HasNoLf (take_all (length line - 1 + 1) line (omega (arith, some))) all
