-- A client that was turned away.
use Rattle.std.proofs.Common.{◌≡◌, ℕ, ◌<◌, true, List, [], ◌∷◌, ◌++◌, length, ap, append_assoc, sym, ◌∙◌, subst}
use mathlib.Core.List.{IsPrefix}
use Rattle.wq_words.specs.declared.event.Event.{Event}
use Rattle.wq_words.specs.declared.event.Event.TheVariants.{Hold, Back}
use Rattle.wq_words.specs.declared.event.Why.{Why}
use Rattle.wq_words.specs.Seen.{own}
use Rattle.wq_values.specs.Known.{Known, Sees}
use Rattle.example_log.specs.declared.message.Message.{Message}
use Rattle.example_log.specs.Sent.{takes_no_more, WasTurnedAway, from_access, from_errors, SendsUnlessTurned}
use Rattle.wq_words.proofs.Seen.{own-append}

-- by a queueing that gave the item back for this
pub turned_away : (k : ℕ) (reason : Why) (old new : Known) → takes_no_more reason ≡ true
    → Sees (Hold old.number k ∷ Back old.number k reason ∷ []) 0 old new → WasTurnedAway new.number new.seen
turned_away k reason old new none sees =
    let s = old.number in let held : List Event = Hold s k ∷ [] in let back : List Event = Back s k reason ∷ [] in
    subst (λ n. WasTurnedAway n new.seen) (sym sees.same.number_is) (record {
      before = own s old.seen ++ held;
      item = k;
      reason = reason;
      after = [];
      is = ap (own s) sees.grows.is ∙ (own-append s old.seen sees.grows.new
          ∙ (ap (λ es. own s old.seen ++ es) sees.grows.mine ∙ sym (append_assoc (own s old.seen) held back)));
      takes_none = none;
    })

-- the same of a history that goes on
pub still_turned : (s : ℕ) (old new : List Event) → IsPrefix old new → WasTurnedAway s old → WasTurnedAway s new
still_turned s old new more w = record {
  before = w.before;
  item = w.item;
  reason = w.reason;
  after = w.after ++ own s more.0;
  is = ap (own s) (sym more.1) ∙ (own-append s old more.0 ∙ (ap (λ es. es ++ own s more.0) w.is
      ∙ append_assoc w.before (Back s w.item w.reason ∷ w.after) (own s more.0)));
  takes_none = w.takes_none;
}

-- the same of both logs
pub sends_all : (s t : ℕ) (ms : List Message) (n m : ℕ) (access more_access errors more_errors : List Event) → t ≡ s → m ≡ n
    → IsPrefix access more_access → IsPrefix errors more_errors → SendsUnlessTurned t ms n access errors → SendsUnlessTurned s ms m more_access more_errors
sends_all s t ms n m access more_access errors more_errors seat count one two ends less =
    elim (ends (subst (λ k. k < length ms) count less)) [
      | from_access w ↦ from_access (subst (λ k. WasTurnedAway k more_access) seat (still_turned t access more_access one w))
      | from_errors w ↦ from_errors (subst (λ k. WasTurnedAway k more_errors) seat (still_turned t errors more_errors two w))
    ]
