use Rattle.wq_live.proofs.Common.{[], subst, ◌∙◌, learns_on, Posts, Known, Sees, sending_in, sender_view}
use Rattle.wq_words.specs.declared.answer.Posted.TheVariants.{Closed}
use Rattle.wq_live.proofs.Alone.{posted_bare, sender_alone}
use Rattle.wq_calls.proofs.Sends.{sees_held}
use Rattle.wq_calls.proofs.Settled.{closed_settled}
use Rattle.wq_calls.proofs.ValueSeats.{learns_slots}
use Rattle.wq_live.proofs.sender.Sender.push_tries.Goals as goal

pub find_closed-requires-clause-held : goal.find_closed-requires-clause-held
find_closed-requires-clause-held c =
    sees_held c.args.number 0 c.args.self.now (sender_view (sending_in 0 c.try_tries.new.chair c.try_tries.new.sent))
    (subst (λ (v : Known). Sees [] 0 v (sender_view (sending_in 0 c.try_tries.new.chair c.try_tries.new.sent))) c.self.view_is c.in-Closed.ensures.posts)
    c.requires.held

pub invariant_of-self : goal.invariant_of-self
invariant_of-self c = let e = c.in-Closed.ensures in let f = c.find_closed.ensures in let was = c.self.invariant in
    let a = c.self.inside.chair in let b = c.try_tries.new.chair in let d = c.find_closed.new.chair in
    sender_alone c.self.inside (record { chair = d; sent = c.find_closed.new.sent }) was f.sends (learns_on 0 a b d e.learns f.learns)
    (f.slots.none (learns_slots 0 a b e.learns ∙ was.bare) ∙ e.slots)

pub invariant_of-self-in_default : goal.invariant_of-self-in_default
invariant_of-self-in_default c = let e = c.try_tries.ensures in let was = c.self.invariant in
    sender_alone c.self.inside (record { chair = c.try_tries.new.chair; sent = c.try_tries.new.sent }) was e.sends e.learns
    (posted_bare c.args.number c.self.inside.chair c.try_tries.new.chair was.bare 0 c.try_tries.result e.slots)

pub returns-in-Closed : goal.returns-in-Closed
returns-in-Closed c = let k = c.args.number in let w = sender_view (sending_in 0 c.find_closed.new.chair c.find_closed.new.sent) in
    subst (λ (v : Known). Posts k c.args.tries Closed v w) c.self.view_is
    (closed_settled k c.args.tries (sender_view (sending_in 0 c.self.inside.chair c.self.inside.sent))
    (sender_view (sending_in 0 c.try_tries.new.chair c.try_tries.new.sent)) w c.in-Closed.ensures.posts c.find_closed.ensures.gives)
