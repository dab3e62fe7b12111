use Rattle.wq_live.proofs.Common.{refl, ◌≡◌, ◌<◌, not, Bool, true, false, [], ap, sym, subst, ◌∙◌, Layout, number_count, Known, learns_step}
use Rattle.wq_live.proofs.Common.{sending_in}
use Rattle.wq_live.proofs.Alone.{sender_alone}
use Rattle.wq_calls.proofs.Counting.{counts_none}
use Rattle.wq_calls.proofs.Tells.{Tells, check_tells, sender_made}
use Rattle.wq_calls.proofs.Sends.{grows_tells, sends_tells, sees_tells}
use Rattle.wq_live.proofs.sender.Sender.is_number_pending.Goals as goal

pub invariant_of-self : goal.invariant_of-self
invariant_of-self c = let s = (sending_in 0 c.self.inside.chair c.self.inside.sent) in let t = sending_in 0 c.check.new.self c.self.inside.sent in
    let made = c.check.ensures.step.steps.moves.makes in
    let layout : s.chair.part.layout ≡ c.args.self.now.layout = c.self.invariant.sends.layout_is ∙ ap (λ (v : Known). v.layout) c.self.view_is in
    let told : Tells [] s.chair.part t.chair.part =
    (check_tells c.args.number c.check.result s.chair.part t.chair.part c.self.invariant.sends.stage
    (subst (λ (l : Layout). c.args.number < number_count l) (sym layout) c.requires.number) made).told in
    sender_alone c.self.inside (record { chair = c.check.new.self; sent = c.self.inside.sent }) c.self.invariant
    (sends_tells s t [] 0 c.self.invariant.sends refl refl told (sender_made _ _ _ _ made c.self.invariant.sends.stage)
    (counts_none s.number 0 s.chair.part.seen t.chair.part.seen s.counts c.self.invariant.sends.counts_are
    (grows_tells s t (λ z. []) 0 c.self.invariant.sends told)))
    (learns_step 0 _ _ _ _ _ c.check.ensures.step) (c.check.ensures.step.hand_same c.self.invariant.bare)

flip : (b : Bool) → not (not b) ≡ b
flip true = refl
flip false = refl

pub returns : goal.returns
returns c = let s = (sending_in 0 c.self.inside.chair c.self.inside.sent) in let t = sending_in 0 c.check.new.self c.self.inside.sent in
    let made = c.check.ensures.step.steps.moves.makes in
    let layout : s.chair.part.layout ≡ c.args.self.now.layout = c.self.invariant.sends.layout_is ∙ ap (λ (v : Known). v.layout) c.self.view_is in
    let checks = check_tells c.args.number c.check.result s.chair.part t.chair.part c.self.invariant.sends.stage
    (subst (λ (l : Layout). c.args.number < number_count l) (sym layout) c.requires.number) made in
    record {
      seen = sees_tells s t c.args.self.now
          (λ z. []) 0 c.self.view_is c.self.invariant.sends refl refl c.check.ensures.step.steps.queue_is checks.told;
      pending = ap not checks.clear ∙ flip _;
    }
