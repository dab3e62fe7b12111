use Rattle.wq_pool.proofs.Common.{Some, sym, subst}
use Rattle.wq_ready.specs.Answers.{Picks}
use Rattle.wq_pool.proofs.pool.PoolOf.pick.Goals as goal

pub returns-in-Some : goal.returns-in-Some
returns-in-Some g c =
    let e = c.in-Some.ensures in let t = c.fetch.ensures in
    record {
      seen = subst (λ (q : _). Picks (Some q) c.args.caller.now c.pick_number.new.caller) (sym t.queue) e.seen;
      caller = e.caller;
      turn = t.turn;
      idle = t.idle;
    }

pub returns-in-None : goal.returns-in-None
returns-in-None g c = let e = c.in-None.ensures in record { seen = e.seen; caller = e.caller; turn = tt; idle = tt }
