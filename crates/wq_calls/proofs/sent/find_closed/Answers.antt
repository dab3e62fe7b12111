use Rattle.wq_calls.proofs.Common.{refl, [], ◌∷◌, Back, learns_step, Sending, sending_in, sender_view}
use Rattle.wq_words.specs.declared.event.Why.TheVariants.{Closed}
use Rattle.wq_calls.proofs.Counting.{counts_closed}
use Rattle.wq_calls.proofs.SenderHands.{back_leaves}
use Rattle.wq_calls.proofs.Tells.{Tells, back_tells, sender_made}
use Rattle.wq_calls.proofs.Sends.{grows_tells, sends_tells, sees_tells, holds_view}
use Rattle.wq_calls.proofs.sent.find_closed.Goals as goal

pub back_closed-requires-clause-held : goal.back_closed-requires-clause-held
back_closed-requires-clause-held g c = let s = sending_in g.P.WhichPart.at c.args.chair.now c.args.sent.now in
    holds_view s (sender_view s) c.args.number refl c.requires.sends c.requires.held

pub returns : goal.returns
returns g c =
    let at = g.P.WhichPart.at in let s = sending_in at c.args.chair.now c.args.sent.now in let o = c.requires.sends in let k = c.args.number in
    let x = c.saturating_add-sent.result in let step = c.back_closed.ensures.step.1 in let made = step.steps.moves.makes in
    let t : Sending = record (sending_in at c.back_closed.new.self c.args.sent.now) { counts = record s.counts { closed = x } } in
    let p = s.chair.part in let q = t.chair.part in
    let told : Tells (Back p.seat k Closed ∷ []) p q = back_tells k _ Closed p q o.stage made in record {
      sends = sends_tells s t _ 0 o refl refl told (sender_made _ _ _ _ made o.stage)
          (counts_closed s.number 0 p.seen q.seen s.counts o.counts_are k x c.saturating_add-sent.ensures
          (grows_tells s t (λ z. Back z k Closed ∷ []) 0 o told));
      learns = learns_step at _ _ _ _ _ step;
      gives = sees_tells s t (sender_view s) (λ z. Back z k Closed ∷ []) 0 refl o refl refl step.steps.queue_is told;
      slots = back_leaves at k _ Closed _ _ _ step;
    }
