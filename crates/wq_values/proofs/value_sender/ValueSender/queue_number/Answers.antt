use Rattle.std.proofs.Common.{None}
use Rattle.wq_calls.proofs.SenderHands.{queued_hand}
use Rattle.wq_values.proofs.ValueSends.{sends_values, sender_learnt, brings_nothing}
use Rattle.wq_values.proofs.value_sender.ValueSender.queue_number.Goals as goal

pub invariant_of-self : goal.invariant_of-self
invariant_of-self g c = let e = c.queue_number.ensures in
    sends_values c.self.inside c.self.invariant c.queue_number.new.chair c.queue_number.new.sent e.learns e.sends
    (queued_hand 0 c.args.number c.self.inside.chair c.queue_number.new.chair None c.queue_number.result e.slots)

pub returns-clause-learnt : goal.returns-clause-learnt
returns-clause-learnt g c = let e = c.queue_number.ensures in
    sender_learnt c.self.inside c.self.invariant c.queue_number.new.chair c.queue_number.new.sent e.learns c.args.self.now c.self.view_is

pub returns-clause-nothing : goal.returns-clause-nothing
returns-clause-nothing g c = let e = c.queue_number.ensures in
    brings_nothing 0 c.args.number c.queue_number.result c.self.inside.chair c.queue_number.new.chair c.queue_number.new.sent e.sends c.self.invariant.slots
    e.slots
