use Rattle.wq_worker.proofs.Common.{Bool, true, false, Known, Sees, pair_owner, rest_events}
use Rattle.wq_live.specs.Rest.{Rests}
use Rattle.wq_calls.proofs.Reading.{empty_from_next}
use Rattle.wq_worker.proofs.Draining.{next_from_empty}
use Rattle.wq_worker.proofs.Pair.{by_owner}
use Rattle.wq_worker.proofs.steps.rest.Goals as goal

seen_of : (rests : Bool) (o p : Known) → Rests rests o p → Sees (rest_events rests) 0 o p
seen_of true o p told = told
seen_of false o p told = told

pub rest-requires-clause-empty : goal.rest-requires-clause-empty
rest-requires-clause-empty g c = empty_from_next (g.P.Paired.known c.args.pair.now).seen c.requires.none.1

pub returns-clause-both : goal.returns-clause-both
returns-clause-both g c =
    let a = g.P.Paired.known c.args.pair.now in let b = g.P.Paired.known c.rest.new.self in let e = c.rest.ensures in
    by_owner (rest_events c.rest.result) 0 0 a b
    (seen_of c.rest.result (pair_owner a) (pair_owner b) e.seen) e.others

pub returns-clause-none : goal.returns-clause-none
returns-clause-none g c = let e = c.rest.ensures in
    (e.idle, next_from_empty (g.P.Paired.known c.rest.new.self).seen e.empty)
