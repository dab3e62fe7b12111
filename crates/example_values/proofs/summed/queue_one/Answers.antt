use Rattle.std.proofs.Common.{sym, ap, ◌∙◌, ◌+◌}
use Rattle.std.specs.Prelude.{sum}
use Rattle.std.proofs.lemmas.List.Elements.{filter_map-append}
use Rattle.std.proofs.lemmas.List.Sums.{sum_by-append}
use Rattle.wq_value_worker.specs.OwnBrought.{own_brought, queued_value}
use Rattle.wq_value_worker.specs.Valued.{values_among}
use Rattle.example_values.proofs.summed.queue_one.Goals as goal

pub returns-clause-sum : goal.returns-clause-sum
returns-clause-sum c =
    let e = c.queue_value-answer.ensures in let s = c.args.sender.now in let old = own_brought s.known.number s.known.seen s.brought in
    let more = queued_value c.args.value c.queue_value-answer.result in
    ap (λ ys. sum (values_among ys)) (c.queued_brings.ensures.grows c.args.item 1 c.args.value c.queue_value-answer.result s _ e.answer e.value e.learnt) ∙
    (ap sum (filter_map-append (λ y. y) old more) ∙
    (sum_by-append (λ v. v) (values_among old) (values_among more) ∙ ap (λ n. sum (values_among old) + n) (sym c.queued_of.ensures)))
