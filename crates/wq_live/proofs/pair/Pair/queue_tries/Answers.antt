use Rattle.wq_live.proofs.Common.{◌≡◌, List, arith, refl, ap, ◌∙◌, subst, Event, Layout, Answers, IsContended, Known, KnownPair, pair_owner, pair_sender}
use Rattle.wq_calls.proofs.Tried.{answers_same}
use Rattle.wq_calls.proofs.SenderHands.{queued_hand}
use Rattle.wq_calls.proofs.InOneSeat.{sender_is, owner_looks}
use Rattle.wq_live.proofs.PlainPaired.{pair_queues}
use Rattle.wq_calls.proofs.OwnerStays.{still_owned}
use Rattle.wq_live.proofs.pair.Pair.queue_tries.Goals as goal

pub queue_number-requires : goal.queue_number-requires
queue_number-requires c = let s = c.self.inside in let was = c.self.invariant in
    let same : s.sent.layout ≡ c.args.self.now.layout = was.seated.one_layout ∙ ap (λ (k : KnownPair). k.layout) c.self.view_is in record {
      sends = was.seated.sends;
      number = omega (arith, c.requires.item, ap (λ (l : Layout). l.items) same);
      bare = λ some. absurd (omega (arith, some, was.bare));
    }

pub invariant_of-self : goal.invariant_of-self
invariant_of-self c = let e = c.queue_number.ensures in let s = c.self.inside in
    pair_queues s c.self.invariant c.queue_number.new.chair c.queue_number.new.sent e.learns e.sends
    (answers_same _ _ c.queue_number.result _ _ e.answer).layout_is
    (queued_hand 1 _ s.seat.chair c.queue_number.new.chair _ c.queue_number.result e.slots)

pub returns : goal.returns
returns c = let s = c.self.inside in let is = c.self.view_is in let q = c.queue_number in let e = q.ensures in
    let item = c.args.item in let tries = c.args.tries in let was = c.self.invariant.seated in
    let pair = (pair_queues s c.self.invariant q.new.chair q.new.sent e.learns e.sends (answers_same _ _ q.result _ _ e.answer).layout_is
    (queued_hand 1 _ s.seat.chair q.new.chair _ q.result e.slots)).seated in
    let others = owner_looks s.seat q.new.chair s.sent was e.learns c.args.self.now is in record {
      answer = subst (λ (k : Known × Known). Answers item tries q.result k.0 k.1)
          (λ i. ((sender_is s.seat s.sent was ∙ ap pair_sender is) i, sender_is (record s.seat { chair = q.new.chair }) q.new.sent pair i)) e.answer;
      contended = λ lost. subst (λ (k : KnownPair). IsContended k.number item tries q.new.chair.first.part.seen) is
          (subst (λ (h : List Event). IsContended s.sent.number item tries h) pair.one_seen (e.contended lost));
      others = others;
      owned = still_owned 0 (pair_owner c.args.self.now) _ refl others;
    }
