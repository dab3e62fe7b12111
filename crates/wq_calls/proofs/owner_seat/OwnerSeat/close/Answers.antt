use Rattle.wq_calls.proofs.Common.{◌≡◌, ◌+◌, ◌-◌, [], ◌∷◌, sym, refl, arith, Close, closed_shuts, closed_word, standing_of, beside_queue}
use Rattle.wq_calls.proofs.Common.{learns_follow, step_or, owning, owner_view}
use Rattle.wq_core.specs.declared.step.Step.TheVariants as step
use Rattle.wq_calls.specs.declared.owner_seat.Phase.TheVariants as phase
use Rattle.wq_calls.proofs.OwnerTells.{makes_stands, close_swaps}
use Rattle.wq_calls.proofs.Phases.{phase_closed, closed_then}
use Rattle.wq_calls.proofs.Resting.{quiet_idle, quiet_runs, accepted_still}
use Rattle.wq_calls.proofs.Linking.{walks_row}
use Rattle.wq_calls.proofs.Taken.{closes_all}
use Rattle.wq_calls.proofs.Cutting.{cut_slots, cut_stage, cut_kept, cut_grows, cut_owns, cut_sees, cut_all, cut_behind, cut_count}
use Rattle.wq_calls.proofs.OwnerHands.{same_hand}
use Rattle.wq_calls.proofs.OwnerStays.{still_executed}
use Rattle.wq_calls.proofs.owner_seat.OwnerSeat.close.Goals as goal

pub close-head-requires-clause-unclosed : goal.close-head-requires-clause-unclosed
close-head-requires-clause-unclosed g c = c.requires.unclosed

pub walk_all-self-requires-clause-stands : goal.walk_all-self-requires-clause-stands
walk_all-self-requires-clause-stands g c = makes_stands _ _ c.args.self.now.chair.first.part c.close-head.new.self.first.part
    c.close-head.ensures.step.steps.moves.makes

pub walk_all-self-requires-clause-stage : goal.walk_all-self-requires-clause-stage
walk_all-self-requires-clause-stage g c =
    cut_kept step.Close closed_word Close close_swaps c.close-head.result (owning c.args.self.now) (standing_of c.close-head.new.self)
    c.requires.owns.queue c.close-head.ensures.step.steps

pub walk_all-self-requires-clause-row : goal.walk_all-self-requires-clause-row
walk_all-self-requires-clause-row g c = let s = owning c.args.self.now in let o = c.requires.owns.queue in let q = standing_of c.close-head.new.self in
    walks_row step.Close c.close-head.result _ s.chair.part q.part s.row o.has_row c.close-head.ensures.step.steps.moves.makes (λ k w. refl)
    (cut_stage step.Close closed_word Close close_swaps c.close-head.result s q o c.close-head.ensures.step.steps)

pub overflow_sub-result : goal.overflow_sub-result
overflow_sub-result g c = c.walk_all-self.ensures.more

pub walk_all-self-requires-clause-slots : goal.walk_all-self-requires-clause-slots
walk_all-self-requires-clause-slots g c = cut_slots step.Close closed_word Close close_swaps c.close-head.result c.args.self.now c.close-head.new.self
    c.requires.owns
    c.close-head.ensures.step (same_hand 0 _ _ _ _ _ c.close-head.ensures.step (λ moves. moves.1))

pub returns : goal.returns
returns g c = let s = owning c.args.self.now in let o = c.requires.owns.queue in let q = standing_of c.close-head.new.self in let found = c.close-head.result in
    let steps = c.close-head.ensures.step.steps in let e = c.walk_all-self.ensures in let v = s.chair.part.seen in
    let w = c.walk_all-self.new.chair.first.part.seen in
    let t = record s { chair = standing_of c.walk_all-self.new.chair; row = c.walk_all-self.result; phase = phase.Closed } in
    let g = cut_grows step.Close closed_word Close close_swaps found s q o steps t e.follows e.stands e.has_row in
    let sees = cut_sees step.Close closed_word Close close_swaps found s q o steps t e.follows e.stands e.has_row refl
    (beside_queue 0 _ _ (learns_follow 0 _ _ e.learns)) in
    let count = c.walk_all-self.result.count - s.row.count in
    let total : count + s.row.count ≡ t.row.count = omega (arith, e.more) in
    let closed = closed_then 0 v w g in let phase_is = sym (phase_closed w closed) in record {
      owns = record {
        queue = cut_owns step.Close closed_word Close close_swaps found s q o steps t e.follows e.stands e.has_row refl refl refl phase_is;
        slots = e.slots;
      };
      learns = step_or 0 _ _ _ _ _ _ c.close-head.ensures.step e.learns;
      seen = sees;
      unqueued = accepted_still 0 (Close ∷ []) (owner_view s) _ sees refl;
      executions = still_executed 0 (Close ∷ []) (owner_view s) _ refl sees refl refl;
      takes = cut_all step.Close closed_word Close close_swaps found s q o steps t e.follows e.stands e.has_row closes_all count total;
      behind = cut_behind step.Close closed_word Close close_swaps found s q o steps t e.follows e.stands e.has_row e.behind;
      count = cut_count step.Close closed_word Close close_swaps found s q o steps t e.follows e.stands e.has_row count total;
      closed = closed;
      shut = closed_shuts w closed;
      idle = quiet_idle (Close ∷ []) 0 (owner_view s) _ refl sees refl refl;
      runs = quiet_runs (Close ∷ []) 0 (owner_view s) _ refl sees refl refl;
    }
