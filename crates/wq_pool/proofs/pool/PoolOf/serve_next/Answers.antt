use Rattle.wq_pool.proofs.GoingOn.{goes_on}
use Rattle.wq_pool.proofs.pool.PoolOf.serve_next.Goals as goal

pub returns-in_default : goal.returns-in_default
returns-in_default g c = record { next = tt; goes_on = c.next_turn.ensures.goes_on }

pub returns : goal.returns
returns g c =
    let e = c.work_share.ensures in
    record {
      next = e.next;
      goes_on = goes_on c.args.caller.now c.next_turn.new.caller c.work_share.new.caller c.next_turn.ensures.goes_on e.goes_on;
    }
