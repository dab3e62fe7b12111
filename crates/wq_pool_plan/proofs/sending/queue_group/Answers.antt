use Rattle.wq_pool_plan.proofs.Common.{List, length, sym, ap, ◌∙◌, subst, arith, Known, AllQueued, whole_items}
use Rattle.wq_pool_plan.proofs.sending.queue_group.Goals as goal

pub returns : goal.returns
returns g c =
    let l = c.loop-sender in let olds = c.args.group.senders.items in let old_size = ap length c.deref_mut-sender-items.ensures.value in
    let size = l.auto.sender-items ∙ old_size in
    subst (λ (xs : List Known). AllQueued c.args.own olds xs)
    (sym (whole_items c.args.group.senders.len l.sender-items olds (size ∙ sym c.args.group.senders.ok.0))) record {
      count = size;
      each = λ i d lt. l.invariant.each i d d (omega (arith, lt, old_size, c.loop-sender-test.false));
    }
