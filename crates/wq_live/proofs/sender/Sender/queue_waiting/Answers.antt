use Rattle.std.specs.Prelude.{None}
use Rattle.wq_calls.proofs.SenderHands.{queued_hand}
use Rattle.wq_live.proofs.Alone.{sender_alone}
use Rattle.wq_calls.proofs.Held.{queued_held}
use Rattle.wq_live.proofs.Common.{Known, subst, Answers, sender_view, sending_in}
use Rattle.wq_live.proofs.sender.Sender.queue_waiting.Goals as goal

pub invariant_of-self : goal.invariant_of-self
invariant_of-self g c = let e = c.queue_waiting.ensures in let was = c.self.invariant in
    sender_alone c.self.inside (record { chair = c.queue_waiting.new.chair; sent = c.queue_waiting.new.sent }) was e.sends e.learns
    (queued_hand 0 c.args.number c.self.inside.chair c.queue_waiting.new.chair None c.queue_waiting.result e.slots)

pub returns-clause-keeps : goal.returns-clause-keeps
returns-clause-keeps g c = λ k. let w = sender_view (sending_in 0 c.queue_waiting.new.chair c.queue_waiting.new.sent) in
    queued_held k c.args.number 0 c.queue_waiting.result c.args.self.now w
    (subst (λ (v : Known). Answers c.args.number 0 c.queue_waiting.result v w) c.self.view_is c.queue_waiting.ensures.answer)
