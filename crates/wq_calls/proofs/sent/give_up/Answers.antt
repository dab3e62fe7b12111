use Rattle.wq_calls.proofs.Common.{refl, [], ◌∷◌, Back, learns_step, Sending, sending_in, sender_view}
use Rattle.wq_words.specs.declared.event.Why.TheVariants.{Contended}
use Rattle.wq_calls.proofs.Counting.{counts_contended}
use Rattle.wq_calls.proofs.SenderHands.{back_leaves}
use Rattle.wq_calls.proofs.Tells.{Tells, back_tells, sender_made}
use Rattle.wq_calls.proofs.Sends.{grows_tells, sends_tells, sees_tells, holds_view}
use Rattle.wq_calls.proofs.sent.give_up.Goals as goal

pub back_contended-requires-clause-held : goal.back_contended-requires-clause-held
back_contended-requires-clause-held g c = let s = sending_in g.P.WhichPart.at c.args.chair.now c.args.sent.now in
    holds_view s (sender_view s) c.args.number refl c.requires.sends c.requires.held

pub returns : goal.returns
returns g c =
    let at = g.P.WhichPart.at in let s = sending_in at c.args.chair.now c.args.sent.now in let o = c.requires.sends in let k = c.args.number in
    let x = c.saturating_add-sent.result in let step = c.back_contended.ensures.step.1 in let made = step.steps.moves.makes in
    let t : Sending = record (sending_in at c.back_contended.new.self c.args.sent.now) { counts = record s.counts { contended = x } } in
    let p = s.chair.part in let q = t.chair.part in
    let told : Tells (Back p.seat k Contended ∷ []) p q = back_tells k _ Contended p q o.stage made in record {
      sends = sends_tells s t _ 0 o refl refl told (sender_made _ _ _ _ made o.stage)
          (counts_contended s.number 0 p.seen q.seen s.counts o.counts_are k x c.saturating_add-sent.ensures
          (grows_tells s t (λ z. Back z k Contended ∷ []) 0 o told));
      learns = learns_step at _ _ _ _ _ step;
      gives = sees_tells s t (sender_view s) (λ z. Back z k Contended ∷ []) 0 refl o refl refl step.steps.queue_is told;
      slots = back_leaves at k _ Contended _ _ _ step;
    }
