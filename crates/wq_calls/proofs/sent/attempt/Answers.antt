use Rattle.wq_calls.proofs.Common.{refl, ◌<◌, [], ◌∷◌, sym, subst, Layout, number_count, Posted, Push, Sending, sending_in, sender_view, IsToBring}
use Rattle.wq_calls.specs.Tells.{PostsAs}
use Rattle.wq_calls.proofs.Counting.{counts_none, counts_push}
use Rattle.wq_calls.proofs.Sends.{grows_tells, sends_tells, holds_view}
use Rattle.wq_calls.proofs.Settled.{tries_told}
use Rattle.wq_calls.proofs.sent.attempt.Goals as goal

pub try_push-posted-requires : goal.try_push-posted-requires
try_push-posted-requires g c = let s = sending_in g.P.WhichPart.at c.args.chair.now c.args.sent.now in let o = c.requires.sends in record {
  sender = o.stage;
  number = subst (λ (l : Layout). c.args.number < number_count l) (sym o.layout_is) c.requires.number;
  held = holds_view s (sender_view s) c.args.number refl o c.requires.held;
  slot = subst (λ (l : Layout). IsToBring l.items c.args.number c.args.chair.now) (sym o.layout_is) c.requires.slot;
}

pub returns-in-Queued : goal.returns-in-Queued
returns-in-Queued g c =
    let at = g.P.WhichPart.at in let s = sending_in at c.args.chair.now c.args.sent.now in let o = c.requires.sends in let k = c.args.number in
    let t : Sending = record (sending_in at c.try_push-posted.new.chair c.args.sent.now)
    { counts = record s.counts { queued = c.saturating_add-sent.result } } in
    let p = s.chair.part in let q = t.chair.part in let e = c.try_push-posted.ensures in
    let told = (subst (λ (a : Posted). PostsAs k a p q) c.in-Queued.is e.posts).0 in record {
      sends = sends_tells s t _ 0 o refl refl told e.sender
          (counts_push s.number 0 p.seen q.seen s.counts o.counts_are k c.saturating_add-sent.result c.saturating_add-sent.ensures
          (grows_tells s t (λ z. Push z k ∷ []) 0 o told));
      learns = e.learns;
      sees_closed = e.sees_closed;
      sees = e.sees;
      posts = tries_told s t (sender_view s) k c.try_push-posted.result refl o refl refl e.learns.follow.queue_is e.posts;
      slots = e.slots;
    }

pub returns-in-Closed : goal.returns-in-Closed
returns-in-Closed g c =
    let at = g.P.WhichPart.at in let s = sending_in at c.args.chair.now c.args.sent.now in let o = c.requires.sends in let k = c.args.number in
    let t : Sending = sending_in at c.try_push-posted.new.chair c.args.sent.now in
    let p = s.chair.part in let q = t.chair.part in let e = c.try_push-posted.ensures in
    let told = (subst (λ (a : Posted). PostsAs k a p q) c.in-Closed.is e.posts) in record {
      sends = sends_tells s t _ 0 o refl refl told e.sender
          (counts_none s.number 0 p.seen q.seen s.counts o.counts_are
          (grows_tells s t (λ z. []) 0 o told));
      learns = e.learns;
      sees_closed = e.sees_closed;
      sees = e.sees;
      posts = tries_told s t (sender_view s) k c.try_push-posted.result refl o refl refl e.learns.follow.queue_is e.posts;
      slots = e.slots;
    }

pub returns-in-Draining : goal.returns-in-Draining
returns-in-Draining g c =
    let at = g.P.WhichPart.at in let s = sending_in at c.args.chair.now c.args.sent.now in let o = c.requires.sends in let k = c.args.number in
    let t : Sending = sending_in at c.try_push-posted.new.chair c.args.sent.now in
    let p = s.chair.part in let q = t.chair.part in let e = c.try_push-posted.ensures in
    let told = (subst (λ (a : Posted). PostsAs k a p q) c.in-Draining.is e.posts).0 in record {
      sends = sends_tells s t _ 0 o refl refl told e.sender
          (counts_none s.number 0 p.seen q.seen s.counts o.counts_are
          (grows_tells s t (λ z. []) 0 o told));
      learns = e.learns;
      sees_closed = e.sees_closed;
      sees = e.sees;
      posts = tries_told s t (sender_view s) k c.try_push-posted.result refl o refl refl e.learns.follow.queue_is e.posts;
      slots = e.slots;
    }

pub returns-in-Contended : goal.returns-in-Contended
returns-in-Contended g c =
    let at = g.P.WhichPart.at in let s = sending_in at c.args.chair.now c.args.sent.now in let o = c.requires.sends in let k = c.args.number in
    let t : Sending = sending_in at c.try_push-posted.new.chair c.args.sent.now in
    let p = s.chair.part in let q = t.chair.part in let e = c.try_push-posted.ensures in
    let told = (subst (λ (a : Posted). PostsAs k a p q) c.in-Contended.is e.posts) in record {
      sends = sends_tells s t _ 1 o refl refl told e.sender
          (counts_none s.number 1 p.seen q.seen s.counts o.counts_are
          (grows_tells s t (λ z. []) 1 o told));
      learns = e.learns;
      sees_closed = e.sees_closed;
      sees = e.sees;
      posts = tries_told s t (sender_view s) k c.try_push-posted.result refl o refl refl e.learns.follow.queue_is e.posts;
      slots = e.slots;
    }
