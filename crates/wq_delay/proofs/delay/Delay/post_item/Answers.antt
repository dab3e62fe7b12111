use Rattle.wq_delay.proofs.Common.{[], refl, ◌∙◌}
use Rattle.wq_delay.proofs.Sound.{fit_at, sound_posted, sound_keeps}
use Rattle.wq_delay.proofs.delay.Delay.post_item.Goals as goal

pub invariant_of-self : goal.invariant_of-self
invariant_of-self c =
    let i = c.self.inside in
    sound_keeps [] c.args.tries i.table.size i.sender c.post.new.self i.table.tick i.next i.table.tick i.table.entries c.in-Contended.ensures.answer
    (λ j. refl) c.self.invariant

pub invariant_of-self-in-Draining : goal.invariant_of-self-in-Draining
invariant_of-self-in-Draining c =
    let i = c.self.inside in
    sound_keeps [] 0 i.table.size i.sender c.post.new.self i.table.tick i.next i.table.tick i.table.entries c.in-Draining.ensures.answer.0
    (λ j. refl) c.self.invariant

pub invariant_of-self-in_default : goal.invariant_of-self-in_default
invariant_of-self-in_default c =
    let i = c.self.inside in
    let sound = sound_posted i.table.size c.args.item c.args.tries c.post.result i.sender c.post.new.self i.table.tick i.next i.table.entries
    c.take.new.self.entries c.in_default.not-Contended c.in_default.not-Draining c.post.ensures.answer c.take.ensures.entries c.self.invariant in
    (c.take.ensures.size ∙ sound.0, fit_at c.post.new.self c.take.new.self.entries i.table.tick c.take.new.self.tick i.next sound.1)
