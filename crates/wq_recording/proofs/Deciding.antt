-- What stands behind the line that decides changes nothing.
use Rattle.wq_recording.proofs.Common.{◌≡◌, ◌≢◌, ℕ, ◌+◌, ◌-◌, ◌<◌, List, [], ◌∷◌, ◌++◌, length, take, drop, get_or, Option, Some, None, Result, Ok, Err, refl, sym, ap, subst, ◌∙◌, arith}
use Rattle.wq_recording.proofs.Common.{append_assoc, length-append, FaultKind, Awaited, Lines, ScriptError, parts, short_line, Violation, Rules, Verdict, IsLineAt}
use Rattle.wq_recording.proofs.Common.{IsFirstViolation, IsRefusedText, HasVerdict, HasFaultAt, same_Some, none-some}
use Rattle.wq_text.specs.declared.fault.FaultKind.TheVariants as kind
use Rattle.wq_recording.specs.Verdict.{deciding_line, IsTooLongAt}
use Rattle.std.proofs.lemmas.List.{length-drop, take-append-drop, get_or-append-add}
use Rattle.std.proofs.Math.Seq.{take-append_seam}
use Rattle.wq_recording.proofs.LastLine.{last_long}
use Rattle.wq_recording.proofs.Reading.{long_is, too_long}
use Rattle.wq_words.proofs.Cases.{same_err, ok_is_no_err}

-- a part with others behind it, and another text of the same lines as far as this one
record IsAlso {A : Type 0} (gives : Lines A) (other : List ℕ) (n : ℕ) (s : Awaited) (asked : List A) (line : List ℕ) : Type 0 where
  next : List ℕ
  more : List (List ℕ)
  at : IsLineAt gives other n s asked line (next ∷ more)

module _ {A E : Type 0} (gives : Lines A) (rules : Rules A E) (text other : List ℕ) where
  also : (n : ℕ) (s : Awaited) (asked : List A) (line : List ℕ) (behind : List (List ℕ)) → IsLineAt gives text n s asked line behind → n < length (parts other)
      → take n (parts other) ≡ take n (parts text) → IsAlso gives other n s asked line
  also n s asked line behind at more same = by_rest (drop n (parts other)) refl
    where
      reached : List (List ℕ)
      reached = at.before ++ line ∷ []

      split : parts text ≡ reached ++ behind
      split = at.split ∙ sym (append_assoc at.before (line ∷ []) behind)

      seam : take n (parts text) ≡ reached
      seam = let long : n ≡ length reached = omega (arith, at.number, length-append at.before (line ∷ [])) in
          ap (take n) split ∙ ap (λ k. take k (reached ++ behind)) long ∙ take-append_seam reached behind

      by_rest : (rest : List (List ℕ)) → drop n (parts other) ≡ rest → IsAlso gives other n s asked line
      by_rest [] e = absurd (omega (arith, more, ap length e, length-drop n (parts other)))
      by_rest (next ∷ others) e = record {
        next = next;
        more = others;
        at = record {
          before = at.before;
          split = sym (take-append-drop n (parts other)) ∙ ap (λ ps. ps ++ drop n (parts other)) (same ∙ seam)
              ∙ ap (λ ps. reached ++ ps) e ∙ append_assoc at.before (line ∷ []) (next ∷ others);
          leads = at.leads;
          number = at.number;
        };
      }

  some_more : (next : List ℕ) (more : List (List ℕ)) → next ∷ more ≢ []
  some_more next more e = cc

  -- a line has others behind it where the text has more parts
  has_behind : (n : ℕ) (s : Awaited) (asked : List A) (line : List ℕ) (behind : List (List ℕ)) → IsLineAt gives text n s asked line behind
      → n < length (parts text) → behind ≢ []
  has_behind n s asked line [] at long = absurd (omega (arith, at.number, long, ap length at.split, length-append at.before (line ∷ [])))
  has_behind n s asked line (next ∷ more) at long = some_more next more

  violates_also : (v : Verdict E) (violation : Violation) (n : ℕ) → IsFirstViolation gives rules text v.layout v.events violation
      → violation.line ≡ n → n < length (parts other)
      → take n (parts other) ≡ take n (parts text) → IsFirstViolation gives rules other v.layout v.events violation
  violates_also v violation n x is more same =
      let P : ℕ → Type 0 = λ m. (m < length (parts other)) × (take m (parts other) ≡ take m (parts text)) in
      let here = subst P (sym is) (more, same) in
      let y = also violation.line x.reached x.asked x.line x.behind x.at here.0 here.1 in
      record {
        reached = x.reached;
        asked = x.asked;
        line = x.line;
        behind = y.next ∷ y.more;
        at = y.at;
        ended = some_more y.next y.more;
        next = x.next;
        one = x.one;
        given = x.given;
        whole = x.whole;
        first = x.first;
        event = x.event;
        rest = x.rest;
        cut = x.cut;
        events_are = x.events_are;
        legal = x.legal;
        caused = x.caused;
      }

  fault_also : (s : Awaited) (line : List ℕ) (behind : List (List ℕ)) (next : List ℕ) (more : List (List ℕ)) (e : ScriptError) → behind ≢ []
      → HasFaultAt gives rules text s line behind e.kind → HasFaultAt gives rules other s line (next ∷ more) e.kind
  fault_also s line [] next more e ended fault = absurd (ended refl)
  fault_also s line (b ∷ bs) next more e ended fault = fault

  refused_also : (e : ScriptError) (n : ℕ) → IsRefusedText gives rules text e → e.line ≡ n → n < length (parts text) → n < length (parts other)
      → take n (parts other) ≡ take n (parts text) → IsRefusedText gives rules other e
  refused_also e n x is long more same =
      let P : ℕ → Type 0 = λ m. (m < length (parts text)) × (m < length (parts other)) × (take m (parts other) ≡ take m (parts text)) in
      let here = subst P (sym is) (long, more, same) in
      let y = also e.line x.reached x.asked x.line x.behind x.at here.1 here.2 in
      record {
        reached = x.reached;
        asked = x.asked;
        line = x.line;
        behind = y.next ∷ y.more;
        at = y.at;
        legal = x.legal;
        fault = fault_also x.reached x.line x.behind y.next y.more e (has_behind e.line x.reached x.asked x.line x.behind x.at here.0) x.fault;
      }

  found_also : (v : Verdict E) (o : Option Violation) (n : ℕ)
      → HasVerdict gives rules text (Ok (record { layout = v.layout; events = v.events; violation = o }))
      → deciding_line {E = E} (Ok (record { layout = v.layout; events = v.events; violation = o })) ≡ Some n → n < length (parts other)
      → take n (parts other) ≡ take n (parts text) → HasVerdict gives rules other (Ok (record { layout = v.layout; events = v.events; violation = o }))
  found_also v None n x is more same = absurd (none-some _ is)
  found_also v (Some violation) n x is more same = violates_also v violation n x (same_Some _ _ is) more same

  pub decided : (n : ℕ) (v : Result (Verdict E) ScriptError) → HasVerdict gives rules text v → deciding_line v ≡ Some n → n < length (parts text)
      → n < length (parts other) → take n (parts other) ≡ take n (parts text) → HasVerdict gives rules other v
  decided n (Ok v) x is long more same = found_also v v.violation n x is more same
  decided n (Err e) x is long more same = refused_also e n x (same_Some _ _ is) long more same

part_at : (ps before rest : List (List ℕ)) (n : ℕ) → ps ≡ before ++ rest → n ≡ 1 + length before → get_or ps (n - 1) [] ≡ get_or rest 0 []
part_at ps before rest n split number =
    ap (λ (qs : List (List ℕ)). get_or qs (n - 1) []) split ∙ ap (λ (k : ℕ). get_or (before ++ rest) k []) (omega (arith, number))
    ∙ get_or-append-add before rest 0 []

-- a line of which no byte behind the first 4,097 is looked at
module _ {A E : Type 0} (inner : Lines A) (rules : Rules A E) (text other : List ℕ) where
  long_line : (n : ℕ) (s : Awaited) (asked : List A) (line : List ℕ) (behind : List (List ℕ)) → IsLineAt (short_line inner) text n s asked line behind
      → IsTooLongAt n text → 4096 < length line
  long_line n s asked line behind at long =
      omega (arith, long, ap length (part_at (parts text) at.before (line ∷ behind) n at.split at.number))

  never_violates : (v : Verdict E) (violation : Violation)
      → IsFirstViolation (short_line inner) rules text v.layout v.events violation → IsTooLongAt violation.line text → ⊥
  never_violates v violation x long =
      ok_is_no_err (sym x.given ∙ long_is inner x.reached x.line (long_line violation.line x.reached x.asked x.line x.behind x.at long))

  size_is : (s : Awaited) (line : List ℕ) (behind : List (List ℕ)) (k : FaultKind) → 4096 < length line
      → HasFaultAt (short_line inner) rules text s line behind k → k ≡ kind.Size
  size_is s line [] k long fault = same_Some _ _ (sym fault ∙ last_long s line long)
  size_is s line (p ∷ ps) k long fault = same_err (sym fault ∙ long_is inner s line long)

  long_also : (e : ScriptError) → IsRefusedText (short_line inner) rules text e → IsTooLongAt e.line text → IsTooLongAt e.line other
      → take (e.line - 1) (parts other) ≡ take (e.line - 1) (parts text) → IsRefusedText (short_line inner) rules other e
  long_also e x long more same = by_rest (drop (e.line - 1) (parts other)) refl
    where
      front : take (e.line - 1) (parts text) ≡ x.at.before
      front =
          ap (take (e.line - 1)) x.at.split ∙ ap (λ (k : ℕ). take k (x.at.before ++ x.line ∷ x.behind)) (omega (arith, x.at.number))
          ∙ take-append_seam x.at.before (x.line ∷ x.behind)

      split : (rest : List (List ℕ)) → drop (e.line - 1) (parts other) ≡ rest → parts other ≡ x.at.before ++ rest
      split rest is =
          sym (take-append-drop (e.line - 1) (parts other)) ∙ ap (λ ps. ps ++ drop (e.line - 1) (parts other)) (same ∙ front)
          ∙ ap (λ ps. x.at.before ++ ps) is

      by_rest : (rest : List (List ℕ)) → drop (e.line - 1) (parts other) ≡ rest → IsRefusedText (short_line inner) rules other e
      by_rest [] is = absurd (omega (arith, more, ap length (part_at (parts other) x.at.before [] e.line (split [] is) x.at.number)))
      by_rest (line ∷ behind) is =
          let parted = split (line ∷ behind) is in
          let size = size_is x.reached x.line x.behind e.kind (long_line e.line x.reached x.asked x.line x.behind x.at long) x.fault in
          let far : 4096 < length line =
          omega (arith, more, ap length (part_at (parts other) x.at.before (line ∷ behind) e.line parted x.at.number)) in
          record {
            reached = x.reached;
            asked = x.asked;
            line = line;
            behind = behind;
            at = record {
              before = x.at.before;
              split = parted;
              leads = x.at.leads;
              number = x.at.number;
            };
            legal = x.legal;
            fault = too_long inner rules other x.reached line behind e.kind far size;
          }

  never_found : (v : Verdict E) (o : Option Violation) (n : ℕ)
      → HasVerdict (short_line inner) rules text (Ok (record { layout = v.layout; events = v.events; violation = o }))
      → deciding_line {E = E} (Ok (record { layout = v.layout; events = v.events; violation = o })) ≡ Some n → IsTooLongAt n text → ⊥
  never_found v None n x is long = none-some _ is
  never_found v (Some violation) n x is long = never_violates v violation x (subst (λ (k : ℕ). IsTooLongAt k text) (sym (same_Some _ _ is)) long)

  pub decided_by_length : (n : ℕ) (v : Result (Verdict E) ScriptError) → HasVerdict (short_line inner) rules text v → deciding_line v ≡ Some n
      → IsTooLongAt n text → IsTooLongAt n other → take (n - 1) (parts other) ≡ take (n - 1) (parts text)
      → HasVerdict (short_line inner) rules other v
  decided_by_length n (Ok v) x is long more same = absurd (never_found v v.violation n x is long)
  decided_by_length n (Err e) x is long more same =
      let P : ℕ → Type 0 = λ k. IsTooLongAt k text × IsTooLongAt k other × (take (k - 1) (parts other) ≡ take (k - 1) (parts text)) in
      let here = subst P (sym (same_Some _ _ is)) (long, more, same) in
      long_also e x here.0 here.1 here.2
