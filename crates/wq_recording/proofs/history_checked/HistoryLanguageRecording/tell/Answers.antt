use Rattle.wq_recording.proofs.Common.{◌++◌, ◌∷◌, [], sym, ap, subst, append_assoc, option_to_list, List}
use Rattle.std.proofs.lemmas.Result.{err_from_is_err_and}
use Rattle.wq_words.specs.declared.event.Event.{Event}
use Rattle.wq_check.specs.Checked.{CheckerState, IsAfter}
use Rattle.wq_recording.specs.HistoryReport.{history_rules}
use Rattle.wq_recording.proofs.Telling.{first_violates}
use Rattle.wq_recording.proofs.history_checked.HistoryLanguageRecording.tell.Goals as goal

pub returns-in_err-tell_event-clause-stopped : goal.returns-in_err-tell_event-clause-stopped
returns-in_err-tell_event-clause-stopped c =
    let p = err_from_is_err_and c.from_residual.result c.from_residual.ensures.1 in
    rw (p.1, p.2) (λ h after.
    let P : CheckerState → Type 0 = λ k. IsAfter k h in
    first_violates history_rules _ h c.args.events.first _ (IsAfter c.tell_event.new.checker) c.in_err-tell_event.field-0.0
    (subst P (sym c.in_err-tell_event.ensures.unchanged) after) (c.in_err-tell_event.ensures.refused h after))

pub returns-in_ok-tell_event-2-clause-told : goal.returns-in_ok-tell_event-2-clause-told
returns-in_ok-tell_event-2-clause-told c = λ h after.
    let first = c.in_ok-tell_event.ensures.told h after in
    let both = c.in_ok-tell_event-2.ensures.told (h ++ c.args.events.first ∷ []) first in
    let P : List Event → Type 0 = λ es. IsAfter c.tell_event-in-Some.new.checker (h ++ c.args.events.first ∷ es) in
    subst P (sym (ap option_to_list c.in-Some.is))
    (subst (IsAfter c.tell_event-in-Some.new.checker) (append_assoc h (c.args.events.first ∷ []) (c.in-Some.second ∷ [])) both)
