use Rattle.wq_script.proofs.Common.{◌≡◌, ℕ, ◌<◌, List, [], length, get_or, arith, sym, ap, ◌∙◌, subst, Event, Known, Hears, AllHear}
use Rattle.wq_words.proofs.Written.{each_written, rest_written, whole_items}
use Rattle.wq_script.proofs.Hearing.{stays_on, sees_stays, hears_hub, same_table_on, keeps_same}
use Rattle.wq_script.proofs.seats.meet_each.Goals as goal

pub meet-requires : goal.meet-requires
meet-requires c =
    let i : ℕ = c.loop-sender.sender-index in
    c.loop-sender.invariant.delay.same.queue_is
    ∙ sym (ap (λ (k : Known). k.queue) (c.loop-sender.invariant.rest i c.sender-item.result (omega arith))
    ∙ c.requires.one i c.sender-item.result (omega (arith, c.loop-sender-test.true, ap length c.deref_mut-sender-items.ensures.value)))

pub loop-sender-preserved : goal.loop-sender-preserved
loop-sender-preserved c =
    let i : ℕ = c.loop-sender.sender-index in
    let m = c.meet.ensures in
    let nows : List Known = c.loop-sender.sender-items in
    let olds : List Known = c.args.senders.now.items in
    let hub = c.loop-sender.invariant.delay in
    let same : length nows ≡ length olds = c.loop-sender.auto.sender-items ∙ ap length c.deref_mut-sender-items.ensures.value in
    let told : List Event = c.args.delay.now.sender.seen in
    let k' : Known = c.meet.new.other in
    let here : i < length nows = omega (arith, c.loop-sender.auto.sender-items, c.loop-sender-test.true) in
    record {
      delay = stays_on c.args.delay.now.sender c.loop-sender.delay.sender c.meet.new.self.sender hub (sees_stays 0 _ _ m.this.seen);
      table = same_table_on c.args.delay.now c.loop-sender.delay c.meet.new.self c.loop-sender.invariant.table (keeps_same [] 0 _ _ m.this);
      each = each_written (Hears told) olds nows i k' c.sender-item.result here c.loop-sender.invariant.each c.loop-sender.invariant.rest
          (hears_hub told c.loop-sender.delay.sender c.meet.new.self.sender (get_or nows i c.sender-item.result) k' hub.begins m.this.seen m.that m.both);
      rest = rest_written olds nows i k' c.loop-sender.invariant.rest;
    }

pub returns-clause-senders : goal.returns-clause-senders
returns-clause-senders c =
    let told : List Event = c.args.delay.now.sender.seen in
    let nows : List Known = c.loop-sender.sender-items in
    let olds : List Known = c.args.senders.now.items in
    let same : length nows ≡ length olds = c.loop-sender.auto.sender-items ∙ ap length c.deref_mut-sender-items.ensures.value in
    let long : length nows ≡ c.args.senders.now.len = c.loop-sender.auto.sender-items ∙ c.deref_mut-sender-items.ensures.len in
    subst (λ (xs : List Known). AllHear told olds xs) (sym (whole_items c.args.senders.now.len nows olds long)) record {
      count = same;
      each = λ i d lt. c.loop-sender.invariant.each i d (omega (arith, lt, ap length c.deref_mut-sender-items.ensures.value, c.loop-sender-test.false));
    }
