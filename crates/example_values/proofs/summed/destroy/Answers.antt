use Rattle.std.proofs.Common.{ap, sym, subst, ◌∙◌}
use Rattle.wq_value_worker.specs.Silent.{AddsNoNumber}
use Rattle.wq_value_worker.specs.Returned.{numbers_in}
use Rattle.example_values.proofs.summed.destroy.Goals as goal

pub returns-in-Some-clause-silent : goal.returns-in-Some-clause-silent
returns-in-Some-clause-silent c =
    let d = c.in-Ok.ensures.outcome in
    let last = c.nothing_is_asked.ensures.closes (λ w k f v m. sym m.numbers ∙ ap numbers_in m.runs) _ _ _ c.legal.ensures.low c.requires.idle
    (d.closed, d.closes, d.row) in
    subst (AddsNoNumber c.args.worker.worker.number c.args.worker.worker.seen) (sym d.seen_is) last.0
