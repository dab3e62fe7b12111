use Rattle.wq_ready.proofs.Common.{◌≡◌, sym, ap, ◌∙◌, arith, view, Identity, CallerState}
use Rattle.wq_ready.proofs.Kept.{puts, learns}
use Rattle.wq_ready.proofs.ready_queue.ReadyQueue.announce.Goals as goal

pub push_as-requires-clause-rule : goal.push_as-requires-clause-rule
push_as-requires-clause-rule g c =
    let one = c.caller.invariant.one in
    let queues : (view c.caller.inside.pass).size.queues ≡ c.self.inside.size.queues =
    ap (λ (k : CallerState). k.ready.size.queues) c.caller.view_is
    ∙ (ap (λ (r : Identity). r.size.queues) c.requires ∙ sym (ap (λ (r : Identity). r.size.queues) c.self.view_is)) in
    (puts _ _ _ _ _ one (c.self.invariant.room_is ∙ sym queues) (omega (arith, queues)), learns _ _ _ one)
