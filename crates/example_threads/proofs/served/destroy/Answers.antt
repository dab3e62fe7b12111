use Rattle.std.proofs.Common.{sym, subst}
use Rattle.wq_worker.specs.Silent.{AddsNoNumber}
use Rattle.example_threads.proofs.served.destroy.Goals as goal

pub returns-in-Ok-clause-silent : goal.returns-in-Ok-clause-silent
returns-in-Ok-clause-silent c =
    let d = c.in-Ok.ensures.outcome in
    let last = c.nothing_is_asked.ensures.closes (λ w k f v none. none) _ _ _ c.legal.ensures.low c.requires.idle (d.closed, d.closes, d.row) in
    subst (AddsNoNumber c.args.worker.number c.args.worker.seen) (sym d.seen_is) last.0
