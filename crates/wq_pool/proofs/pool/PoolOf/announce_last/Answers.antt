use Rattle.wq_pool.proofs.GoingOn.{goes_on, goes_still}
use Rattle.wq_pool.proofs.pool.PoolOf.announce_last.Goals as goal

pub loop-init : goal.loop-init
loop-init g c = (c.requires, goes_still c.args.caller.now)

pub returns-then-announce_marked : goal.returns-then-announce_marked
returns-then-announce_marked g c =
    let a = c.args.caller.now in let b = c.loop.caller in let e = c.announce_marked.ensures in
    record { caller = e.caller; goes_on = goes_on a b c.announce_marked.new.caller c.loop.invariant.1 e.goes_on }

pub loop-preserved : goal.loop-preserved
loop-preserved g c =
    let a = c.args.caller.now in let b = c.loop.caller in let d = c.announce_marked.new.caller in let e = c.mark_all.ensures in
    (e.caller, goes_on a d c.mark_all.new.caller (goes_on a b d c.loop.invariant.1 c.announce_marked.ensures.goes_on) e.goes_on)
