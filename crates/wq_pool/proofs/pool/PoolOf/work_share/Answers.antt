use Rattle.wq_pool.proofs.Common.{sym, ◌∙◌, subst, CallerState, TurnState, GoesOnFrom, IsTurnOf}
use Rattle.wq_pool.proofs.GoingOn.{goes_on, turn_same}
use Rattle.wq_pool.proofs.pool.PoolOf.work_share.Goals as goal

pub put_back-requires : goal.put_back-requires
put_back-requires g c = record { caller = c.loop.invariant.0; worked = c.in-Ok.ensures.same.slots_is ∙ c.loop.invariant.2.slots_is }

pub returns-in-Ok : goal.returns-in-Ok
returns-in-Ok g c =
    let a = c.args.caller.now in
    record { next = c.loop.invariant.3; goes_on = subst (λ (z : CallerState). GoesOnFrom a z) (sym c.put_back.ensures.same) c.loop.invariant.1 }

pub returns-then-is_announced : goal.returns-then-is_announced
returns-then-is_announced g c =
    let a = c.args.caller.now in let b = c.loop.caller in let d = c.announce_again-is_announced.new.caller in
    let e = c.announce_again-is_announced.ensures in
    record {
      next = e.next;
      goes_on = subst (λ (z : CallerState). GoesOnFrom a z) (sym c.put_back-then-is_announced.ensures.same) (goes_on a b d c.loop.invariant.1 e.goes_on);
    }

pub loop-preserved-else-is_announced : goal.loop-preserved-else-is_announced
loop-preserved-else-is_announced g c =
    let a = c.args.caller.now in let b = c.loop.caller in let d = c.announce_again-is_announced.new.caller in (
      c.announce_again-is_announced.ensures.caller,
      goes_on a b d c.loop.invariant.1 c.announce_again-is_announced.ensures.goes_on,
      subst (λ (t : TurnState _). IsTurnOf g.K.Station.state g.K.Station.deals c.args.self.now t) (sym c.count_stop.ensures)
          (turn_same g.K.Station.state g.K.Station.deals c.args.self.now c.loop.turn c.in-Err.same c.loop.invariant.2 c.in-Err.ensures.same
          c.in-Err.ensures.deals),
      c.announce_again-is_announced.ensures.next,
    )

pub loop-preserved : goal.loop-preserved
loop-preserved g c = (
  c.loop.invariant.0,
  c.loop.invariant.1,
  subst (λ (t : TurnState _). IsTurnOf g.K.Station.state g.K.Station.deals c.args.self.now t) (sym c.count_stop.ensures)
      (turn_same g.K.Station.state g.K.Station.deals c.args.self.now c.loop.turn c.in-Err.same c.loop.invariant.2 c.in-Err.ensures.same c.in-Err.ensures.deals),
  c.loop.invariant.3,
)
