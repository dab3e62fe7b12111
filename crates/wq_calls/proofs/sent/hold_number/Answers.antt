use Rattle.wq_calls.proofs.Common.{◌≡◌, ◌==◌, true, false, refl, [], ◌∷◌, subst, MatchBool, Bool, eq-eqb, ne_eqb, Hold, Busy, learns_step, Sending}
use Rattle.wq_calls.proofs.Common.{sending_in, sender_view, HoldsSlot}
use Rattle.wq_calls.proofs.Counting.{counts_hold, counts_busy}
use Rattle.wq_calls.proofs.SenderHands.{hold_slot}
use Rattle.wq_calls.proofs.Tells.{Tells, hold_tells, sender_made}
use Rattle.wq_calls.proofs.Sends.{grows_tells, sends_tells, sees_tells}
use Rattle.wq_calls.proofs.sent.hold_number.Goals as goal

pub returns-then-hold-eq0 : goal.returns-then-hold-eq0
returns-then-hold-eq0 g c =
    let at = g.P.WhichPart.at in let s = sending_in at c.args.chair.now c.args.sent.now in let o = c.requires.sends in let k = c.args.number in
    let t : Sending = sending_in at c.hold.new.self c.args.sent.now in
    let p = s.chair.part in let q = t.chair.part in let step = c.hold.ensures.step in let made = step.steps.moves.makes in
    let is : (c.hold.result == 0) ≡ true = eq-eqb c.hold.result 0 c.if-hold-eq0.true in
    let told : Tells (Hold p.seat k ∷ []) p q =
    subst (λ (b : Bool). MatchBool b (Tells (Hold p.seat k ∷ []) p q) (Tells (Busy p.seat k ∷ []) p q)) is
    (hold_tells k c.hold.result p q o.stage made) in record {
      sends = sends_tells s t _ 0 o refl refl told (sender_made _ _ _ _ made o.stage)
          (counts_hold s.number 0 p.seen q.seen s.counts o.counts_are k (grows_tells s t (λ z. Hold z k ∷ []) 0 o told));
      learns = learns_step at _ _ _ _ _ step;
      seen = sees_tells s t (sender_view s) (λ z. Hold z k ∷ []) 0 refl o refl refl step.steps.queue_is told;
      slots = subst (λ (b : Bool). HoldsSlot k b c.args.chair.now c.hold.new.self) is (hold_slot at k _ _ _ _ step);
    }

pub returns : goal.returns
returns g c =
    let at = g.P.WhichPart.at in let s = sending_in at c.args.chair.now c.args.sent.now in let o = c.requires.sends in let k = c.args.number in
    let x = c.saturating_add-sent.result in
    let t : Sending = record (sending_in at c.hold.new.self c.args.sent.now) { counts = record s.counts { pending = x } } in
    let p = s.chair.part in let q = t.chair.part in let step = c.hold.ensures.step in let made = step.steps.moves.makes in
    let isnt : (c.hold.result == 0) ≡ false = ne_eqb c.hold.result 0 c.if-hold-eq0.false in
    let told : Tells (Busy p.seat k ∷ []) p q =
    subst (λ (b : Bool). MatchBool b (Tells (Hold p.seat k ∷ []) p q) (Tells (Busy p.seat k ∷ []) p q)) isnt
    (hold_tells k c.hold.result p q o.stage made) in record {
      sends = sends_tells s t _ 0 o refl refl told (sender_made _ _ _ _ made o.stage)
          (counts_busy s.number 0 p.seen q.seen s.counts o.counts_are k x c.saturating_add-sent.ensures
          (grows_tells s t (λ z. Busy z k ∷ []) 0 o told));
      learns = learns_step at _ _ _ _ _ step;
      seen = sees_tells s t (sender_view s) (λ z. Busy z k ∷ []) 0 refl o refl refl step.steps.queue_is told;
      slots = subst (λ (b : Bool). HoldsSlot k b c.args.chair.now c.hold.new.self) isnt (hold_slot at k _ _ _ _ step);
    }
