use Rattle.std.proofs.Common.{map, sym, ap, ◌∙◌, Ok}
use Rattle.std.proofs.lemmas.Result.{err_from_is_err_and}
use Rattle.wq_recording.proofs.LineEvents.{events_told, events_fail}
use Rattle.wq_recording.proofs.history_words.line_events.Goals as goal

pub returns-in_err-sender-clause-exact : goal.returns-in_err-sender-clause-exact
returns-in_err-sender-clause-exact c =
    let p = err_from_is_err_and c.from_residual.result c.from_residual.ensures.1 in
    let words = map (λ w. w.now) c.args.words.now in
    rw (p.1, p.2) (events_fail c.args.layout c.args.word c.args.first.now words c.in_err-sender.field-0.0 c.in_err-sender.ensures.exact)

pub returns-clause-exact : goal.returns-clause-exact
returns-clause-exact c =
    let words = map (λ w. w.now) c.args.words.now in
    events_told c.args.layout c.args.word c.args.first.now words c.in_ok-sender.sender c.in_ok-sender.number c.in_ok-sender.ensures.exact
    ∙ ap Ok (sym c.line_events_of.ensures)
