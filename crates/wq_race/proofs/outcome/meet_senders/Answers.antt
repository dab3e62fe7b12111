use Rattle.wq_race.proofs.Common.{◌≡◌, ℕ, ◌<◌, List, length, get_or, arith, sym, ap, ◌∙◌, subst, Event, Known, IsKnown, AllKnown}
use Rattle.wq_words.proofs.Written.{each_written, rest_written, whole_items}
use Rattle.wq_race.proofs.Meeting.{met_still, met_more, known_one, known_more}
use Rattle.wq_race.proofs.outcome.meet_senders.Goals as goal

pub loop-sender-init : goal.loop-sender-init
loop-sender-init c = record {
  worker = met_still c.args.worker.now c.requires.legal;
  each = λ i d lt. absurd (omega (arith, lt));
  rest = λ i d le. ap (λ (xs : List Known). get_or xs i d) c.deref_mut-sender-items.ensures.value;
}

pub meet-requires : goal.meet-requires
meet-requires c =
    let i : ℕ = c.loop-sender.sender-index in
    sym (c.loop-sender.invariant.worker.same.queue_is ∙ sym (ap (λ (k : Known). k.queue) (c.loop-sender.invariant.rest i c.sender-item.result (omega arith))
    ∙ c.requires.one i c.sender-item.result (omega (arith, c.loop-sender-test.true, ap length c.deref_mut-sender-items.ensures.value))))

pub loop-sender-preserved : goal.loop-sender-preserved
loop-sender-preserved c =
    let i : ℕ = c.loop-sender.sender-index in
    let m = c.meet.ensures in
    let nows : List Known = c.loop-sender.sender-items in
    let olds : List Known = c.args.senders.now.items in
    let next : List Event = c.meet.new.self.seen in
    let met = c.loop-sender.invariant.worker in
    let k' : Known = c.meet.new.sender in
    let here : i < length nows = omega (arith, c.loop-sender.auto.sender-items, c.loop-sender-test.true) in
    record {
      worker = met_more c.args.worker.now c.loop-sender.worker c.meet.new.self met m.worker;
      each = each_written (IsKnown next) olds nows i k' c.sender-item.result here
          (λ k d lt. known_more (get_or olds k d) (get_or nows k d) c.loop-sender.worker.seen next (m.worker.adds.new, sym m.worker.adds.is)
          (c.loop-sender.invariant.each k d lt))
          c.loop-sender.invariant.rest (known_one (get_or nows i c.sender-item.result) k' next m.sender m.both);
      rest = rest_written olds nows i k' c.loop-sender.invariant.rest;
    }

pub returns-clause-senders : goal.returns-clause-senders
returns-clause-senders c =
    let seen : List Event = c.loop-sender.worker.seen in
    let nows : List Known = c.loop-sender.sender-items in
    let olds : List Known = c.args.senders.now.items in
    let same : length nows ≡ length olds = c.loop-sender.auto.sender-items ∙ ap length c.deref_mut-sender-items.ensures.value in
    let long : length nows ≡ c.args.senders.now.len = c.loop-sender.auto.sender-items ∙ c.deref_mut-sender-items.ensures.len in
    subst (λ (xs : List Known). AllKnown seen olds xs) (sym (whole_items c.args.senders.now.len nows olds long)) record {
      count = same;
      each = λ i d lt. c.loop-sender.invariant.each i d (omega (arith, lt, ap length c.deref_mut-sender-items.ensures.value, c.loop-sender-test.false));
    }
