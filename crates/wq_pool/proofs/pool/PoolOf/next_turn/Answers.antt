use Rattle.std.specs.Prelude.{option_map}
use Rattle.wq_pool.specs.Known.{queue_in_turn}
use Rattle.wq_pool.proofs.GoingOn.{goes_still, goes_by_pick}
use Rattle.wq_pool.proofs.pool.PoolOf.next_turn.Goals as goal

pub returns-in-Some : goal.returns-in-Some
returns-in-Some g c = record { caller = c.requires.caller; goes_on = goes_still c.args.caller.now; turn = c.fetch.ensures.turn }

pub returns-in-None : goal.returns-in-None
returns-in-None g c =
    let e = c.pick.ensures in
    record {
      caller = e.caller;
      goes_on = goes_by_pick (option_map queue_in_turn c.pick.result) c.args.caller.now c.pick.new.caller e.seen;
      turn = e.turn;
    }
