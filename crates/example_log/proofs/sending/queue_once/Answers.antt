use Rattle.std.proofs.Common.{ap, ◌∙◌}
use Rattle.wq_values.specs.OwnBrought.{own_brought}
use Rattle.example_log.proofs.sending.queue_once.Goals as goal

pub returns-clause-brought : goal.returns-clause-brought
returns-clause-brought g c =
    let e = c.queue_value_wait.ensures in let old = c.args.sender.now in let new = c.queue_value_wait.new.self in
    ap (λ n. own_brought n new.known.seen new.brought) e.same.number_is ∙
    c.queued_brings.ensures.grows c.args.item 0 c.args.line c.queue_value_wait.result old new e.answer e.value e.learnt
