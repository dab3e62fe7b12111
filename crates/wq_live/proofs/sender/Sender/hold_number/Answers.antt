use Rattle.wq_live.proofs.Alone.{held_bare, sender_alone}
use Rattle.wq_live.proofs.sender.Sender.hold_number.Goals as goal

pub invariant_of-self : goal.invariant_of-self
invariant_of-self c = let e = c.hold_number.ensures in let was = c.self.invariant in
    sender_alone c.self.inside (record { chair = c.hold_number.new.chair; sent = c.hold_number.new.sent }) was e.sends e.learns
    (held_bare c.args.number c.self.inside.chair c.hold_number.new.chair was.bare c.hold_number.result e.slots)
