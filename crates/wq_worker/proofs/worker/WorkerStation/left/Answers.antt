use Rattle.wq_worker.proofs.Common.{◌≡◌, ◌+◌, length, sym, subst, accepted, ended, IsShut, WorkerState}
use Rattle.wq_worker.proofs.worker.WorkerStation.left.Goals as goal

pub left_of-requires : goal.left_of-requires
left_of-requires g c = record {
  legal = c.self.invariant.legal;
  shut = subst (λ (z : WorkerState g.row.W.Denot). IsShut z.seen) (sym c.self.view_is) c.requires;
}

pub returns : goal.returns
returns g c =
    subst (λ (z : WorkerState g.row.W.Denot). c.left_of.result + length (ended z.seen) ≡ length (accepted z.seen)) c.self.view_is c.left_of.ensures.left
