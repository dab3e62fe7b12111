use Rattle.wq_pool_plan.proofs.Common.{ℕ, ◌<◌, List, length, get_or, sym, ap, ◌∙◌, subst, arith, Known, HasQueuedStop, AllStopped, each_written, rest_written}
use Rattle.wq_pool_plan.proofs.Common.{whole_items, get_or_default}
use Rattle.wq_pool_plan.proofs.sending.stop_all.Goals as goal

pub loop-program-preserved : goal.loop-program-preserved
loop-program-preserved g c =
    let l = c.loop-program in let i : ℕ = l.program-index in let nows : List Known = l.program-items in
    let olds : List Known = c.args.programs.now.items in let now : Known = c.queue_stop-answer.new.program in
    let here : i < length nows = omega (arith, l.auto.program-items, c.loop-program-test.true) in
    let queued : HasQueuedStop (get_or nows i c.program-item.result) now = record {
      stopped = c.queue_stop-answer.ensures.few;
      answer = c.queue_stop-answer.result;
      answered = c.queue_stop-answer.ensures.answer;
      settled = c.queue_stop-answer.ensures.settled;
    } in
    record {
      caller = c.wake.ensures;
      place = omega (arith, l.invariant.place);
      each = each_written HasQueuedStop olds nows i now c.program-item.result here l.invariant.each l.invariant.rest queued;
      rest = rest_written olds nows i now l.invariant.rest;
    }

pub returns : goal.returns
returns g c =
    let l = c.loop-program in let olds = c.args.programs.now.items in let old_size = ap length c.deref_mut-program-items.ensures.value in
    let size = l.auto.program-items ∙ old_size in
    subst (λ (xs : List Known). AllStopped olds xs)
    (sym (whole_items c.args.programs.now.len l.program-items olds (size ∙ sym c.args.programs.now.ok.0))) record {
      count = size;
      each = λ i d e lt. subst (λ (k : Known). HasQueuedStop (get_or olds i d) k)
          (get_or_default l.program-items i d e (omega (arith, lt, size)))
          (l.invariant.each i d (omega (arith, lt, old_size, c.loop-program-test.false)));
    }
