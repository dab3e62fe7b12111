-- Which rules a text is judged by.
use Rattle.wq_recording.proofs.Common.{◌≡◌, ◌≢◌, ℕ, ◌+◌, ◌-◌, ◌<◌, ◌⊎◌, Bool, true, false, List, [], ◌∷◌, ◌++◌, length, take, Option, Some, None, IfSome}
use Rattle.wq_recording.proofs.Common.{Result, Ok, Err, IfOk, IfErr, refl, sym, ap, subst, ◌∙◌, inl, inr, arith, length-append, append-nil, append_assoc, slice_index, parts, cases_lt}
use Rattle.std.specs.Prelude.{MatchBool}
use Rattle.std.proofs.Common.{codes, take_all}
use Rattle.std.proofs.lemmas.Bool.{cases_eq}
use Rattle.std.proofs.lemmas.List.{take_more}
use Rattle.std.specs.Io.KnownBytes.{Consumes, IsAtEnd}
use Rattle.std.specs.Str.{bytes_eq}
use Rattle.std.proofs.lemmas.Slice.Eq.{bytes_eq-Decides}
use Rattle.wq_recording.specs.declared.error.CheckError.{CheckError}
use Rattle.wq_recording.specs.declared.finding.Finding.{Finding}
use Rattle.wq_recording.specs.Checking.{begins_as_trace, is_trace, history_line, trace_line}
use Rattle.wq_recording.specs.HistoryReport.{history_rules}
use Rattle.wq_recording.specs.Judging.{IfTextRefused}
use Rattle.wq_recording.specs.TraceReport.{trace_rules}
use Rattle.wq_recording.specs.Verdict.{IsRefusedText}
use Rattle.wq_recording.specs.VerdictText.{Finds}
use Rattle.wq_recording.specs.Lines.{EndsWithLf, IsLineRead}
use Rattle.wq_recording.proofs.LineParts.{parts_line, parts_bare, parts_front, whole_line, bare_line}
use Rattle.wq_recording.proofs.Reading.{some_part}

pub followed : (line : List ℕ) (more : List (List ℕ)) → more ≢ [] → begins_as_trace (line ∷ more) ≡ bytes_eq line (codes "trace 1")
followed line [] some = absurd (some refl)
followed line (p ∷ ps) some = refl

-- a line that ends with an LF is what stands before it, and the LF
without_lf : (line : List ℕ) → EndsWithLf line → line ≡ take (length line - 1) line ++ 10 ∷ []
without_lf line lf =
    sym (take_all (length line - 1 + 1) line (omega (arith, lf.0)))
    ∙ take_more line (length line - 1) 0 (omega (arith, lf.0)) ∙ ap (λ b. take (length line - 1) line ++ b ∷ []) lf.1

ends_or_not : (line : List ℕ) → EndsWithLf line ⊎ (¬ EndsWithLf line)
ends_or_not line = elim (cases_lt 0 (length line)) [
  | inr none ↦ inr (λ lf. omega (arith, lf.0, none))
  | inl some ↦ elim (cases_eq (slice_index line (length line - 1)) 10) [
    | inl is ↦ inl (some, is)
    | inr other ↦ inr (λ lf. other lf.1)
  ]
]

longer_than_version : (line : List ℕ) → 4096 < length line → bytes_eq line (codes "trace 1") ≡ false
longer_than_version line long = by_bit (bytes_eq line (codes "trace 1")) refl
  where
    by_bit : (b : Bool) → bytes_eq line (codes "trace 1") ≡ b → bytes_eq line (codes "trace 1") ≡ false
    by_bit false e = e
    by_bit true e = absurd (omega (arith, long, ap length ((bytes_eq-Decides line (codes "trace 1")).0 e)))

module _ (text line : List ℕ) (left : Option (List ℕ)) (taken : Consumes (Some text) left line) (got : IsLineRead line (Some text) left) (b : Bool) where
  is_trace_whole : (t : List ℕ) → line ≡ t ++ 10 ∷ [] → b ≡ bytes_eq t (codes "trace 1") → is_trace text ≡ b
  is_trace_whole t whole is = by_left left taken
    where
      by_left : (o : Option (List ℕ)) → Consumes (Some text) o line → is_trace text ≡ b
      by_left None taken = absurd taken
      by_left (Some ys) taken =
          ap begins_as_trace (ap parts (taken ∙ ap (λ l. l ++ ys) whole ∙ append_assoc t (10 ∷ []) ys)
          ∙ parts_line t ys (whole_line line (Some text) left got t whole).0)
          ∙ followed t (parts ys) (some_part ys) ∙ sym is

  is_trace_bare : ¬ EndsWithLf line → b ≡ false → is_trace text ≡ b
  is_trace_bare bare is = by_left left taken got.ends
    where
      by_left : (o : Option (List ℕ)) → Consumes (Some text) o line → EndsWithLf line ⊎ ((4096 < length line) ⊎ IsAtEnd o) → is_trace text ≡ b
      by_left None taken ends = absurd taken
      by_left (Some ys) taken (inl lf) = absurd (bare lf)
      by_left (Some ys) taken (inr (inl long)) =
          let f = parts_front line ys (bare_line line (Some text) left got bare) in
          ap begins_as_trace (ap parts taken ∙ f.2) ∙ by_more (line ++ f.0) f.1 (omega (arith, long, length-append line f.0)) ∙ sym is
        where
          by_more : (part : List ℕ) (more : List (List ℕ)) → 4096 < length part → begins_as_trace (part ∷ more) ≡ false
          by_more part [] long = refl
          by_more part (p ∷ ps) long = longer_than_version part long
      by_left (Some ys) taken (inr (inr none)) =
          ap begins_as_trace (ap parts (taken ∙ ap (λ zs. line ++ zs) none ∙ append-nil line)
          ∙ parts_bare line (bare_line line (Some text) left got bare)) ∙ sym is

  pub is_trace_as : ((t : List ℕ) → line ≡ t ++ 10 ∷ [] → b ≡ bytes_eq t (codes "trace 1")) → (¬ EndsWithLf line → b ≡ false) → is_trace text ≡ b
  is_trace_as whole rest = elim (ends_or_not line) [
    | inl lf ↦ is_trace_whole (take (length line - 1) line) (without_lf line lf) (whole _ (without_lf line lf))
    | inr bare ↦ is_trace_bare bare (rest bare)
  ]

-- what holds by the rules that were taken holds of the text
module _ (known : Option (List ℕ)) (left : Option (List ℕ)) (line : List ℕ) (taken : Consumes known left line) (got : IsLineRead line known left) (b : Bool)
    (whole : (t : List ℕ) → line ≡ t ++ 10 ∷ [] → b ≡ bytes_eq t (codes "trace 1")) (rest : ¬ EndsWithLf line → b ≡ false) where
  judged_as : (R : Bool → List ℕ → Type 0) → IfSome known (R b) → IfSome known (λ text. R (is_trace text) text)
  judged_as R holds = by_known known taken got holds
    where
      by_known : (o : Option (List ℕ)) → Consumes o left line → IsLineRead line o left → IfSome o (R b) → IfSome o (λ text. R (is_trace text) text)
      by_known None taken got holds = tt
      by_known (Some text) taken got holds =
          let S : Bool → Type 0 = λ y. R y text in subst S (sym (is_trace_as text line left taken got b whole rest)) holds

  pub ok_as : {X Y : Type 0} (r : Result X Y) (R : Bool → X → List ℕ → Type 0) → IfOk r (λ x. IfSome known (R b x))
      → IfOk r (λ x. IfSome known (λ text. R (is_trace text) x text))
  ok_as (Ok x) R holds = judged_as (λ y. R y x) holds
  ok_as (Err e) R holds = tt

  pub err_as : {X Y : Type 0} (r : Result X Y) (R : Bool → Y → List ℕ → Type 0) → IfErr r (λ e. IfSome known (R b e))
      → IfErr r (λ e. IfSome known (λ text. R (is_trace text) e text))
  err_as (Ok x) R holds = tt
  err_as (Err e) R holds = judged_as (λ y. R y e) holds

abbrev pub FoundBy : Bool → Finding → List ℕ → Type 0
FoundBy b finding text = MatchBool b (Finds trace_line trace_rules text finding) (Finds history_line history_rules text finding)

abbrev pub RefusedBy : Bool → CheckError → List ℕ → Type 0
RefusedBy b error text =
    IfTextRefused error (λ e. MatchBool b (IsRefusedText trace_line trace_rules text e) (IsRefusedText history_line history_rules text e))
