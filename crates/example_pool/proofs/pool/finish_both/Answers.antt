use Rattle.std.proofs.Common.{subst}
use Rattle.std.specs.List.{AllByRecursion}
use Rattle.wq_pool.specs.Quiet.{IsQuiet}
use Rattle.example_pool.proofs.pool.finish_both.Goals as goal

pub returns-clause-of_workers : goal.returns-clause-of_workers
returns-clause-of_workers g c =
    let all = c.nothing_is_queued.ensures.quiet (λ w k f v none. none) 3 _ _ c.requires.unused c.in_ok-finished.ensures.begins in
    let both = subst (AllByRecursion (λ parts. IsQuiet 3 parts.1.seen)) c.both_of.ensures.both all in (both.0, both.1.0)
