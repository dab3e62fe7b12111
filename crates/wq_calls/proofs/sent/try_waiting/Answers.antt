use Rattle.wq_calls.proofs.Common.{arith, ◌<◌, [], inl, inr, refl, sym, ◌∙◌, subst, Layout, number_count, sending_in, sender_view}
use Rattle.wq_words.proofs.Seen.{grows_none}
use Rattle.wq_table.proofs.Learns.{or_learns}
use Rattle.wq_calls.proofs.Sends.{same_none, sees_after, sees_held}
use Rattle.wq_calls.proofs.SenderHands.{posts_from, bring_from}
use Rattle.wq_calls.proofs.Settled.{tries_after}
use Rattle.wq_calls.proofs.sent.try_waiting.Goals as goal

pub loop-init : goal.loop-init
loop-init g c = let s = sender_view (sending_in g.P.WhichPart.at c.args.chair.now c.args.sent.now) in record {
  next = tt;
  finite = tt;
  sends = c.requires.sends;
  learns = inl refl;
  same = same_none s;
  grows = grows_none s.number s.seen;
  held = c.requires.held;
  hand = refl;
}

pub attempt-requires-clause-number : goal.attempt-requires-clause-number
attempt-requires-clause-number g c = subst (λ (l : Layout). c.args.number < number_count l) (sym c.loop.invariant.same.layout_is) c.requires.number

pub attempt-requires-clause-slot : goal.attempt-requires-clause-slot
attempt-requires-clause-slot g c = let inv = c.loop.invariant in
    bring_from c.args.number c.args.sent.now.layout c.loop.sent.layout c.args.chair.now c.loop.chair inv.same.layout_is inv.same.queue_is inv.hand
    c.requires.slot

pub loop-preserved : goal.loop-preserved
loop-preserved g c =
    let at = g.P.WhichPart.at in let s = sender_view (sending_in at c.args.chair.now c.args.sent.now) in
    let l = sender_view (sending_in at c.loop.chair c.loop.sent) in let t = sender_view (sending_in at c.attempt.new.chair c.attempt.new.sent) in
    let inv = c.loop.invariant in let e = c.in-Contended.ensures in
    let after = sees_after (λ z. []) (λ z. []) 0 1 0 s l t (omega arith) inv.same inv.grows e.posts in record {
      next = tt;
      finite = tt;
      sends = e.sends;
      learns = inr (or_learns at _ _ _ inv.learns e.learns);
      same = after.same;
      grows = after.grows;
      held = sees_held c.args.number 1 l t e.posts inv.held;
      hand = e.slots ∙ inv.hand;
    }

pub returns-in_default : goal.returns-in_default
returns-in_default g c = let at = g.P.WhichPart.at in let k = c.args.number in let inv = c.loop.invariant in let e = c.attempt.ensures in record {
  sends = e.sends;
  sees_closed = e.sees_closed;
  sees = e.sees;
  learns = or_learns at _ _ _ inv.learns e.learns;
  posts = tries_after k 0 0 c.attempt.result (sender_view (sending_in at c.args.chair.now c.args.sent.now))
      (sender_view (sending_in at c.loop.chair c.loop.sent)) (sender_view (sending_in at c.attempt.new.chair c.attempt.new.sent)) inv.same inv.grows
      (λ is. absurd (c.in_default.not-Contended is)) e.posts;
  slots = posts_from at k c.attempt.result c.args.chair.now c.loop.chair c.attempt.new.chair inv.same.queue_is inv.hand e.slots;
  settled = c.in_default.not-Contended;
}
