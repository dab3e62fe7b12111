-- A drain that a call met.
use Rattle.wq_calls.proofs.Common.{◌≡◌, ℕ, ◌≤◌, List, [], ◌∷◌, ◌++◌, length, take, sym, ap, ◌∙◌, subst, arith, append_assoc, length-append, Event, IsDraining}
use Rattle.wq_calls.proofs.Common.{Known, Sees, Hold, Back, Grows, take-length, HasMetDrain}
use Rattle.wq_calls.specs.Answers.{IsTurnedBack}
use Rattle.std.proofs.Common.{drop}
use Rattle.std.proofs.lemmas.List.{take-append-drop, length-take}
use Rattle.wq_words.specs.declared.event.Why.TheVariants as why
use Rattle.wq_words.proofs.Growing.{take_length}

-- what is seen grows no shorter
pub grows_longer : (c : ℕ) (xs : List Event) (n : ℕ) (v w : List Event) → Grows c xs n v w → length v ≤ length w
grows_longer c xs n v w g = omega (arith, ap (λ (h : List Event). length h) g.is, length-append v g.new)

-- what is seen last drains
pub met_now : (v w : List Event) → length v ≤ length w → IsDraining w → HasMetDrain v w
met_now v w less is = (length w, less, subst IsDraining (sym (take-length w)) is)

-- the call began sooner
pub met_since : (u v w : List Event) → length u ≤ length v → HasMetDrain v w → HasMetDrain u w
met_since u v w less met = (met.0, omega (arith, less, met.1), met.2)

-- the call goes on
pub met_still : (c : ℕ) (xs : List Event) (n : ℕ) (v w h : List Event) → length v ≤ length w → Grows c xs n w h → HasMetDrain v w → HasMetDrain v h
met_still c xs n v w h less g met =
    let seen : List Event = take met.0 w in
    let whole : h ≡ seen ++ (drop met.0 w ++ g.new) =
    g.is ∙ (ap (λ (x : List Event). x ++ g.new) (sym (take-append-drop met.0 w)) ∙ append_assoc seen (drop met.0 w) g.new) in
    let same : take (length seen) h ≡ seen = ap (take (length seen)) whole ∙ take_length seen (drop met.0 w ++ g.new) in
    (length seen, omega (arith, length-take met.0 w, less, met.1), subst IsDraining (sym same) met.2)

-- a drain that was met between the hold and the give-back was met within the call
pub met_between : (k : ℕ) (old held refused new : Known) → Sees (Hold old.number k ∷ []) 0 old held → Sees [] 0 held refused
    → HasMetDrain held.seen refused.seen → Sees (Back old.number k why.Draining ∷ []) 0 refused new → IsTurnedBack k old new
met_between k old held refused new holds looks met gives =
    let until = refused.seen in
    let since : length old.seen ≤ length held.seen = grows_longer old.number (Hold old.number k ∷ []) 0 old.seen held.seen holds.grows in
    let looked : length held.seen ≤ length until = grows_longer held.number [] 0 held.seen until looks.grows in
    record {
      held = held;
      refused = refused;
      holds = holds;
      looks = looks;
      met = met;
      gives = gives;
      within = met_still refused.number (Back old.number k why.Draining ∷ []) 0 old.seen until new.seen (omega (arith, since, looked)) gives.grows
          (met_since old.seen held.seen until since met);
    }
