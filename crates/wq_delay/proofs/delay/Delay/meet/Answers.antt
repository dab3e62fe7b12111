use Rattle.wq_delay.proofs.Common.{[], refl}
use Rattle.wq_delay.proofs.Sound.{sound_keeps}
use Rattle.wq_delay.proofs.delay.Delay.meet.Goals as goal

pub invariant_of-self : goal.invariant_of-self
invariant_of-self c =
    let i = c.self.inside in
    sound_keeps [] 0 i.table.size i.sender c.meet.new.self i.table.tick i.next i.table.tick i.table.entries c.meet.ensures.this (λ j. refl) c.self.invariant
