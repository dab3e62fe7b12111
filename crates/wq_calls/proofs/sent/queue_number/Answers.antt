use Rattle.wq_calls.proofs.Common.{◌<◌, ◌∙◌, sym, subst, Layout, number_count, learns_on, learns_or, sending_in, sender_view}
use Rattle.wq_calls.proofs.Sends.{sees_hold}
use Rattle.wq_calls.proofs.SenderHands.{held_to_bring, emptied_after, queues_slot}
use Rattle.wq_calls.proofs.Settled.{tried_same, held_after, answers_settled, contended_settled}
use Rattle.wq_calls.proofs.sent.queue_number.Goals as goal

pub try_tries-posted-requires : goal.try_tries-posted-requires
try_tries-posted-requires g c = let at = g.P.WhichPart.at in let k = c.args.number in let a = c.args.chair.now in let b = c.hold_number.new.chair in
    let e = c.if-not-hold_number.ensures in let same = e.seen.same in record {
      sends = e.sends;
      number = subst (λ (l : Layout). k < number_count l) (sym same.layout_is) c.requires.number;
      held = sees_hold k 0 (sender_view (sending_in at a c.args.sent.now)) (sender_view (sending_in at b c.hold_number.new.sent)) e.seen;
      slot = held_to_bring k c.args.sent.now.layout c.hold_number.new.sent.layout a b same.layout_is same.queue_is c.requires.bare e.slots;
    }

pub settle-requires : goal.settle-requires
settle-requires g c =
    let at = g.P.WhichPart.at in let k = c.args.number in let a = c.args.chair.now in let b = c.hold_number.new.chair in let d = c.try_tries-posted.new.chair in
    let s = sender_view (sending_in at a c.args.sent.now) in let t = sender_view (sending_in at b c.hold_number.new.sent) in
    let u = sender_view (sending_in at d c.try_tries-posted.new.sent) in let e = c.if-not-hold_number.ensures in let f = c.try_tries-posted.ensures in
    let same = tried_same k c.args.tries c.try_tries-posted.result t u f.posts in record {
      sends = f.sends;
      number = subst (λ (l : Layout). k < number_count l) (sym (same.layout_is ∙ e.seen.same.layout_is)) c.requires.number;
      held = held_after k c.args.tries c.try_tries-posted.result t u f.posts (sees_hold k 0 s t e.seen);
      sees_closed = f.sees_closed;
      sees = f.sees;
      slot = emptied_after at k a b d e.seen.same.queue_is e.slots c.try_tries-posted.result same.queue_is f.slots;
    }

pub returns : goal.returns
returns g c =
    let at = g.P.WhichPart.at in let k = c.args.number in let a = c.args.chair.now in let b = c.hold_number.new.chair in let d = c.try_tries-posted.new.chair in
    let s = sender_view (sending_in at a c.args.sent.now) in let t = sender_view (sending_in at b c.hold_number.new.sent) in
    let u = sender_view (sending_in at d c.try_tries-posted.new.sent) in let e = c.if-not-hold_number.ensures in let f = c.try_tries-posted.ensures in
    let w = sender_view (sending_in at c.settle.new.chair c.settle.new.sent) in let h = c.settle.ensures in let posted = c.try_tries-posted.result in
    let same = tried_same k c.args.tries posted t u f.posts in record {
      sends = h.sends;
      learns = learns_or at a d c.settle.new.chair (learns_on at a b d e.learns f.learns) h.learns;
      answer = answers_settled k c.args.tries s t u w e.seen posted c.settle.result f.posts h.settles;
      contended = contended_settled k c.args.tries s t u w e.seen posted c.settle.result f.posts h.settles;
      slots = queues_slot at k a b d e.seen.same.queue_is e.slots posted c.settle.result c.settle.new.chair u w same.queue_is f.slots h.slots h.settles;
    }
