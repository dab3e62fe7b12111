use Rattle.wq_pool.proofs.Common.{◌∙◌}
use Rattle.wq_pool.proofs.GoingOn.{goes_on}
use Rattle.wq_pool.proofs.pool.PoolOf.serve.Goals as goal

pub returns-in_default : goal.returns-in_default
returns-in_default g c = c.loop.invariant.1

pub returns-then-has_stopped : goal.returns-then-has_stopped
returns-then-has_stopped g c =
    goes_on c.args.caller.now c.loop.caller c.announce_last.new.caller c.loop.invariant.1 c.announce_last.ensures.goes_on

pub loop-preserved : goal.loop-preserved
loop-preserved g c =
    let on = c.serve_next-next.ensures.goes_on in (
      on.same.ready_is ∙ c.loop.invariant.0,
      goes_on c.args.caller.now c.loop.caller c.serve_next-next.new.caller c.loop.invariant.1 on,
      c.serve_next-next.ensures.next,
    )
