use Rattle.wq_pool.proofs.Common.{◌≡◌, Some, All-pop, TurnState}
use Rattle.wq_pool.proofs.pool.PoolOf.lay_all.Goals as goal

pub lay_down-requires : goal.lay_down-requires
lay_down-requires g c =
    (All-pop (λ (t : TurnState _). t.slots ≡ c.args.self.now.slots) c.loop-worked.all.items c.pop.new.self.items (Some c.in-Some.worked)
    c.in-Some.ensures.items c.loop-worked.invariant).1

pub loop-worked-preserved : goal.loop-worked-preserved
loop-worked-preserved g c =
    (All-pop (λ (t : TurnState _). t.slots ≡ c.args.self.now.slots) c.loop-worked.all.items c.pop.new.self.items (Some c.in-Some.worked)
    c.in-Some.ensures.items c.loop-worked.invariant).0
