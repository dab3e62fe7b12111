use Rattle.wq_worker.proofs.Common.{sym, ◌∙◌, taking}
use Rattle.wq_worker.proofs.Pair.{by_owner}
use Rattle.wq_worker.proofs.steps.take_next.Goals as goal

pub returns-clause-both : goal.returns-clause-both
returns-clause-both g c =
    let e = c.take_where_empty.ensures in let a = g.P.Paired.known c.args.pair.now in let b = g.P.Paired.known c.take_where_empty.new.pair in
    by_owner (taking a.seen) 0 0 a b e.seen e.others

pub returns-clause-nothing : goal.returns-clause-nothing
returns-clause-nothing g c none = c.take_where_empty.ensures.empty (sym c.next.ensures.first ∙ none)
