use Rattle.wq_core.proofs.Sound.{seen_open}
use Rattle.wq_machine.proofs.Stored.{stored_link}
use Rattle.wq_machine.proofs.machine.Core.link.Goals as goal

pub invariant_of-self : goal.invariant_of-self
invariant_of-self c =
    let made = rw (← c.self.view_is) at c.requires in
    let is = seen_open _ made.1.1 in
    rw (c.link_place.ensures.place, c.link_word.ensures.word, c.unwrap_or.ensures, c.private_at-seat.ensures, c.deref.ensures.value)
    (stored_link _ _ _ c.self.invariant c.args.sender c.args.number _ made.0.0.0 made.0.1 made.1.0 is.0 is.1)
