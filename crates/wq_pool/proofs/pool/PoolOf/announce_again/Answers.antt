use Rattle.wq_pool.proofs.GoingOn.{goes_on, goes_by_announce, goes_by_pick}
use Rattle.wq_pool.proofs.pool.PoolOf.announce_again.Goals as goal

pub returns-then-is_ok : goal.returns-then-is_ok
returns-then-is_ok g c =
    let e = c.announce.ensures in
    record {
      caller = e.caller;
      next = c.requires.next;
      goes_on = goes_by_announce c.args.queue c.announce.result c.args.caller.now c.announce.new.caller e.seen;
    }

pub returns-then-is_some : goal.returns-then-is_some
returns-then-is_some g c =
    let a = c.args.caller.now in let b = c.announce.new.caller in let e = c.announce_last.ensures in
    record {
      caller = e.caller;
      next = c.requires.next;
      goes_on = goes_on a b c.announce_last.new.caller (goes_by_announce c.args.queue c.announce.result a b c.announce.ensures.seen) e.goes_on;
    }

pub returns : goal.returns
returns g c =
    let a = c.args.caller.now in let b = c.announce.new.caller in let d = c.pick_number.new.caller in let e = c.announce-2.ensures in
    record {
      caller = e.caller;
      next = c.pick_number.ensures.queue;
      goes_on = goes_on a d c.announce-2.new.caller
          (goes_on a b d (goes_by_announce c.args.queue c.announce.result a b c.announce.ensures.seen)
          (goes_by_pick c.pick_number.result b d c.pick_number.ensures.seen))
          (goes_by_announce c.args.queue c.announce-2.result d c.announce-2.new.caller e.seen);
    }
