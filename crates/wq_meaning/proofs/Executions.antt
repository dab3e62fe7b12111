-- What executions end, and one more of a row.
use Rattle.wq_meaning.proofs.Common.{◌≡◌, ℕ, suc, ◌&&◌, Bool, true, false, not, nat_le, List, [], ◌∷◌, ◌++◌, length, fold, refl, sym, ap, ◌∙◌, Option, Some}
use Rattle.wq_meaning.proofs.Common.{None, option_to_list, if◌then◌else◌, append-nil, ArrayVec, Event, Hold, Busy, Push, Back, Take, Begin, End, Chain}
use Rattle.wq_meaning.proofs.Common.{ChainBusy, begun, ended, closed, shut, draining, pending, taken, next, follow_of, take_events, follow_events}
use Rattle.wq_meaning.proofs.Common.{after_follow, after_run, after_execution, after_executions, go_on}
use Rattle.wq_words.specs.declared.event.Why.TheVariants as why
use Rattle.wq_words.proofs.Appended.{ended-append}

-- queueing what follows ends nothing
ended_follow : (worker k : ℕ) (h : List Event) → ended (follow_events worker k h) ≡ []
ended_follow worker k h = each (shut h) (pending h k) (closed h) (draining h)
  where
    each : (chains set refused drains : Bool) → ended (if chains then (if set then ChainBusy k ∷ [] else Chain k ∷ [])
        else (if set then Busy worker k ∷ [] else if refused then Hold worker k ∷ Back worker k why.Closed ∷ []
        else if drains then Hold worker k ∷ Back worker k why.Draining ∷ [] else Hold worker k ∷ Push worker k ∷ [])) ≡ []
    each true true refused drains = refl
    each true false refused drains = refl
    each false true refused drains = refl
    each false false true drains = refl
    each false false false true = refl
    each false false false false = refl

ended_follows : (worker : ℕ) (g : List Event) (ks : List ℕ) → ended (fold (after_follow worker) g ks) ≡ ended g
ended_follows worker g [] = refl
ended_follows worker g (k ∷ ks) =
    ended_follows worker (after_follow worker g k) ks ∙ ended-append g (follow_events worker k g)
    ∙ ap (λ x. ended g ++ x) (ended_follow worker k g) ∙ append-nil (ended g)

ended_take : (g : List Event) → ended (g ++ take_events g) ≡ ended g
ended_take g = ended-append g (take_events g) ∙ ap (λ x. ended g ++ x) (none (nat_le (taken g) (length (begun g)) && not (shut g))) ∙ append-nil (ended g)
  where
    none : (b : Bool) → ended (if b then Take ∷ [] else []) ≡ []
    none true = refl
    none false = refl

ended_run : (worker : ℕ) (follows : List (ArrayVec ℕ)) (g : List Event) (o : Option ℕ) → ended (after_run worker follows g o) ≡ ended g ++ option_to_list o
ended_run worker follows g None = sym (append-nil (ended g))
ended_run worker follows g (Some k) =
    ended-append (fold (after_follow worker) (g ++ Begin k ∷ []) (follow_of follows k)) (End k ∷ [])
    ∙ ap (λ x. x ++ k ∷ []) (ended_follows worker (g ++ Begin k ∷ []) (follow_of follows k) ∙ ended-append g (Begin k ∷ []) ∙ append-nil (ended g))

-- an execution ends the number that was next
pub ended_execution : (worker : ℕ) (follows : List (ArrayVec ℕ)) (g : List Event)
    → ended (after_execution worker follows g) ≡ ended g ++ option_to_list (next g)
ended_execution worker follows g = ended_run worker follows (g ++ take_events g) (next g) ∙ ap (λ x. x ++ option_to_list (next g)) (ended_take g)

-- a row of executions goes on after its first, unless that was of a number at which it ends
pub row_goes_on : (worker : ℕ) (follows : List (ArrayVec ℕ)) (ends : ℕ → Bool) (left n k : ℕ) (g : List Event) → n ≡ suc left → Some k ≡ next g
    → after_executions worker follows ends n g
    ≡ (if ends k then after_execution worker follows g else after_executions worker follows ends left (after_execution worker follows g))
row_goes_on worker follows ends left n k g count wants = ap (λ m. after_executions worker follows ends m g) count
    ∙ ap (go_on (after_executions worker follows ends left) ends (after_execution worker follows g)) (sym wants)
