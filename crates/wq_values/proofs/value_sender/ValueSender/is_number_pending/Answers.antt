use Rattle.wq_values.proofs.Common.{◌≡◌, ◌<◌, ◌∙◌, [], None, refl, ap, sym, subst, Layout, number_count, learns_step, Check, KnownWith, sending_in}
use Rattle.wq_calls.proofs.Counting.{counts_none}
use Rattle.wq_calls.proofs.SenderHands.{check_hand}
use Rattle.wq_calls.proofs.Tells.{Tells, check_tells, sender_made}
use Rattle.wq_calls.proofs.Sends.{grows_tells, sends_tells, sees_tells}
use Rattle.wq_values.proofs.ValueSends.{sends_values, sender_learnt}
use Rattle.wq_values.proofs.value_sender.ValueSender.is_number_pending.Goals as goal

pub invariant_of-self : goal.invariant_of-self
invariant_of-self g c = let a = c.self.inside.chair in let b = c.check.new.self in let sent = c.self.inside.sent in let o = c.self.invariant.sends in
    let s = sending_in 0 a sent in let t = sending_in 0 b sent in let step = c.check.ensures.step in let made = step.steps.moves.makes in
    let layout : s.chair.part.layout ≡ c.args.self.now.known.layout = o.layout_is ∙ ap (λ (v : KnownWith g.row.V.Denot). v.known.layout) c.self.view_is in
    let told : Tells [] s.chair.part t.chair.part =
    (check_tells c.args.number c.check.result s.chair.part t.chair.part o.stage
    (subst (λ (l : Layout). c.args.number < number_count l) (sym layout) c.requires.number) made).told in
    sends_values c.self.inside c.self.invariant b sent (learns_step 0 None (Check c.args.number) c.check.result a b step)
    (sends_tells s t [] 0 o refl refl told (sender_made _ _ _ _ made o.stage)
    (counts_none s.number 0 s.chair.part.seen t.chair.part.seen s.counts o.counts_are (grows_tells s t (λ z. []) 0 o told)))
    (check_hand 0 c.args.number c.check.result None a b step)

pub returns-clause-seen : goal.returns-clause-seen
returns-clause-seen g c = let a = c.self.inside.chair in let b = c.check.new.self in let sent = c.self.inside.sent in let o = c.self.invariant.sends in
    let s = sending_in 0 a sent in let t = sending_in 0 b sent in let step = c.check.ensures.step in
    let layout : s.chair.part.layout ≡ c.args.self.now.known.layout = o.layout_is ∙ ap (λ (v : KnownWith g.row.V.Denot). v.known.layout) c.self.view_is in
    let checks = check_tells c.args.number c.check.result s.chair.part t.chair.part o.stage
    (subst (λ (l : Layout). c.args.number < number_count l) (sym layout) c.requires.number) step.steps.moves.makes in
    sees_tells s t c.args.self.now.known (λ z. []) 0 (ap (λ (v : KnownWith g.row.V.Denot). v.known) c.self.view_is) o refl refl step.steps.queue_is checks.told

pub returns-clause-learnt : goal.returns-clause-learnt
returns-clause-learnt g c = let a = c.self.inside.chair in let b = c.check.new.self in
    sender_learnt c.self.inside c.self.invariant b c.self.inside.sent (learns_step 0 None (Check c.args.number) c.check.result a b c.check.ensures.step)
    c.args.self.now c.self.view_is
