use Rattle.wq_pool_plan.proofs.Common.{ℕ, ◌≡◌, ◌-◌, ◌*◌, sym, subst, arith, range_with_len, HasQueued, queued_none, queued_next}
use Rattle.wq_pool_plan.proofs.sending.queue_own.Goals as goal

pub loop-item-init : goal.loop-item-init
loop-item-init g c =
    let first = c.number.result * c.args.own in let none : first - first ≡ 0 = omega arith in
    record {
      caller = c.requires.caller;
      queued = subst (λ (n : ℕ). HasQueued (range_with_len first n) c.args.sender.now c.args.sender.now) (sym none) (queued_none c.args.sender.now);
    }

pub loop-item-preserved : goal.loop-item-preserved
loop-item-preserved g c = record {
  caller = c.queue_item.ensures.caller;
  queued = queued_next (c.number.result * c.args.own) c.loop-item.item c.args.sender.now c.loop-item.sender
      c.queue_item.new.sender c.loop-item.auto.item c.loop-item.invariant.queued c.queue_item.ensures.queued;
}
