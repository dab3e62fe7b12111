use Rattle.wq_calls.proofs.Common.{sym, ◌∙◌}
use Rattle.wq_calls.proofs.Phases.{closed_marked, closed_unmarked}
use Rattle.wq_calls.proofs.owner_seat.OwnerSeat.is_closed.Goals as goal

pub returns-in-Closed : goal.returns-in-Closed
returns-in-Closed g c = let s = c.args.self.now in
    record { closed = closed_marked s.chair.first.part.seen (sym c.requires.owns.queue.phase_is ∙ c.in-Closed.is) }

pub returns-in_default : goal.returns-in_default
returns-in_default g c = let s = c.args.self.now in
    record { closed = closed_unmarked s.chair.first.part.seen (λ is. c.in_default.not-Closed (c.requires.owns.queue.phase_is ∙ is)) }
