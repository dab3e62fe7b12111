use Rattle.std.proofs.Common.{subst}
use Rattle.std.specs.List.{AllByRecursion}
use Rattle.wq_value_pool.specs.Quiet.{IsQuiet}
use Rattle.example_log.proofs.logs.finish_both.Goals as goal

pub returns-clause-quiet : goal.returns-clause-quiet
returns-clause-quiet g c =
    let all = c.nothing_is_queued.ensures.quiet (λ w k line pairs u none. none) 3 _ _ c.requires.fresh c.in_ok-finished.ensures.begins in
    let both = subst (AllByRecursion (λ parts. IsQuiet 3 parts.1.book.seen)) c.both_of.ensures.both all in (both.0, both.1.0)
