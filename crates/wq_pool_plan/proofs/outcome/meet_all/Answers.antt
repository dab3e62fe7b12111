use Rattle.wq_pool_plan.proofs.Common.{ℕ, ◌<◌, List, length, get_or, arith, sym, ap, ◌∙◌, subst, Event, each_written, rest_written, whole_items, Known, IsKnown}
use Rattle.wq_pool_plan.proofs.Common.{AllKnown, heard_still, heard_one, heard_on}
use Rattle.wq_race.proofs.Meeting.{known_one, known_more}
use Rattle.wq_pool_plan.proofs.outcome.meet_all.Goals as goal

pub loop-sender-init : goal.loop-sender-init
loop-sender-init c = record {
  book = heard_still c.args.book.now;
  each = λ i d lt. absurd (omega (arith, lt));
  rest = λ i d le. ap (λ (xs : List Known). get_or xs i d) c.deref_mut-sender-items.ensures.value;
}

pub meet-requires : goal.meet-requires
meet-requires c =
    let i : ℕ = c.loop-sender.sender-index in
    sym (c.loop-sender.invariant.book.queue_is ∙ sym (ap (λ (k : Known). k.queue) (c.loop-sender.invariant.rest i c.sender-item.result (omega arith))
    ∙ c.requires i c.sender-item.result (omega (arith, c.loop-sender-test.true, ap length c.deref_mut-sender-items.ensures.value))))

pub loop-sender-preserved : goal.loop-sender-preserved
loop-sender-preserved c =
    let i : ℕ = c.loop-sender.sender-index in let m = c.meet.ensures in
    let nows : List Known = c.loop-sender.sender-items in let olds : List Known = c.args.senders.now.items in
    let next : List Event = c.meet.new.self.seen in let k' : Known = c.meet.new.sender in
    let heard = heard_one c.loop-sender.book c.meet.new.self m.same m.owner in
    let here : i < length nows = omega (arith, c.loop-sender.auto.sender-items, c.loop-sender-test.true) in
    record {
      book = heard_on c.args.book.now c.loop-sender.book c.meet.new.self c.loop-sender.invariant.book heard;
      each = each_written (IsKnown next) olds nows i k' c.sender-item.result here
          (λ k d lt. known_more (get_or olds k d) (get_or nows k d) c.loop-sender.book.seen next heard.begins (c.loop-sender.invariant.each k d lt))
          c.loop-sender.invariant.rest (known_one (get_or nows i c.sender-item.result) k' next m.sender m.both);
      rest = rest_written olds nows i k' c.loop-sender.invariant.rest;
    }

pub returns-clause-senders : goal.returns-clause-senders
returns-clause-senders c =
    let l = c.loop-sender in let olds = c.args.senders.now.items in let old_size = ap length c.deref_mut-sender-items.ensures.value in
    let size = l.auto.sender-items ∙ old_size in
    subst (λ (xs : List Known). AllKnown l.book.seen olds xs)
    (sym (whole_items c.args.senders.now.len l.sender-items olds (size ∙ sym c.args.senders.now.ok.0))) record {
      count = size;
      each = λ i d lt. l.invariant.each i d (omega (arith, lt, old_size, c.loop-sender-test.false));
    }
