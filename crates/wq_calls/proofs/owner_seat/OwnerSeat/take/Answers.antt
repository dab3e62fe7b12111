use Rattle.wq_calls.proofs.Common.{◌≡◌, ℕ, ◌+◌, [], ◌∷◌, length, ap, sym, refl, ◌∙◌, arith, List, Take, busy_word, closed_shuts, standing_of}
use Rattle.wq_calls.proofs.Common.{beside_queue, learns_follow, step_or, owning, owner_view, kept_batch}
use Rattle.wq_core.specs.declared.step.Step.TheVariants as step
use Rattle.wq_calls.proofs.OwnerTells.{makes_stands, owner_batch, none_of, take_swaps}
use Rattle.wq_calls.proofs.Phases.{phase_quiet}
use Rattle.wq_calls.proofs.Resting.{quiet_idle, quiet_runs, open_stays, unclosed_stays, accepted_still}
use Rattle.wq_calls.proofs.Linking.{walks_row}
use Rattle.wq_calls.proofs.Taken.{takes_all}
use Rattle.wq_calls.proofs.Cutting.{cut_slots, cut_stage, cut_kept, cut_grows, cut_owns, cut_sees, cut_all, cut_count}
use Rattle.wq_calls.proofs.OwnerHands.{same_hand}
use Rattle.wq_calls.proofs.OwnerStays.{still_executed}
use Rattle.wq_calls.proofs.owner_seat.OwnerSeat.take.Goals as goal

pub take-head-requires-clause-open : goal.take-head-requires-clause-open
take-head-requires-clause-open g c = c.requires.open

pub take-head-requires-clause-empty : goal.take-head-requires-clause-empty
take-head-requires-clause-empty g c = let s = owning c.args.self.now in let o = c.requires.owns.queue in
    none_of s.chair.part.stage (kept_batch s.chair.part.stage) o.has_row.stage_is
    (owner_batch s (owner_view (owning c.args.self.now)) refl o ∙ c.requires.empty)

pub walk_all-self-requires-clause-stands : goal.walk_all-self-requires-clause-stands
walk_all-self-requires-clause-stands g c = makes_stands _ _ c.args.self.now.chair.first.part c.take-head.new.self.first.part
    c.take-head.ensures.step.steps.moves.makes

pub walk_all-self-requires-clause-stage : goal.walk_all-self-requires-clause-stage
walk_all-self-requires-clause-stage g c =
    cut_kept step.Take busy_word Take take_swaps c.take-head.result (owning c.args.self.now) (standing_of c.take-head.new.self)
    c.requires.owns.queue c.take-head.ensures.step.steps

pub walk_all-self-requires-clause-row : goal.walk_all-self-requires-clause-row
walk_all-self-requires-clause-row g c = let s = owning c.args.self.now in let o = c.requires.owns.queue in let q = standing_of c.take-head.new.self in
    walks_row step.Take c.take-head.result _ s.chair.part q.part s.row o.has_row c.take-head.ensures.step.steps.moves.makes (λ k w. refl)
    (cut_stage step.Take busy_word Take take_swaps c.take-head.result s q o c.take-head.ensures.step.steps)

pub walk_all-self-requires-clause-slots : goal.walk_all-self-requires-clause-slots
walk_all-self-requires-clause-slots g c = cut_slots step.Take busy_word Take take_swaps c.take-head.result c.args.self.now c.take-head.new.self c.requires.owns
    c.take-head.ensures.step (same_hand 0 _ _ _ _ _ c.take-head.ensures.step (λ moves. moves.1))

pub returns : goal.returns
returns g c = let s = owning c.args.self.now in let o = c.requires.owns.queue in let q = standing_of c.take-head.new.self in let found = c.take-head.result in
    let steps = c.take-head.ensures.step.steps in let e = c.walk_all-self.ensures in let v = s.chair.part.seen in
    let w = c.walk_all-self.new.chair.first.part.seen in
    let t = record s { chair = standing_of c.walk_all-self.new.chair; row = c.walk_all-self.result } in
    let g = cut_grows step.Take busy_word Take take_swaps found s q o steps t e.follows e.stands e.has_row in
    let sees = cut_sees step.Take busy_word Take take_swaps found s q o steps t e.follows e.stands e.has_row refl
    (beside_queue 0 _ _ (learns_follow 0 _ _ e.learns)) in
    let count = c.walk_all-self.result.count in
    let total : count + s.row.count ≡ t.row.count =
    omega (arith, o.has_row.row_is.count_is, ap (λ (xs : List ℕ). length xs) (owner_batch s (owner_view s) refl o ∙ c.requires.empty)) in
    let phase_is = o.phase_is ∙ sym (phase_quiet (Take ∷ []) 0 v w g refl) in record {
      owns = record {
        queue = cut_owns step.Take busy_word Take take_swaps found s q o steps t e.follows e.stands e.has_row refl refl refl phase_is;
        slots = e.slots;
      };
      learns = step_or 0 _ _ _ _ _ _ c.take-head.ensures.step e.learns;
      seen = sees;
      unqueued = accepted_still 0 (Take ∷ []) (owner_view s) _ sees refl;
      executions = still_executed 0 (Take ∷ []) (owner_view s) _ refl sees refl refl;
      takes = cut_all step.Take busy_word Take take_swaps found s q o steps t e.follows e.stands e.has_row takes_all count total;
      count = omega (
        arith,
        cut_count step.Take busy_word Take take_swaps found s q o steps t e.follows e.stands e.has_row count total,
        ap (λ (xs : List ℕ). length xs) c.requires.empty,
      );
      «open» = open_stays (Take ∷ []) 0 (owner_view s) _ refl sees refl c.requires.open;
      unclosed = unclosed_stays (Take ∷ []) 0 (owner_view s) _ refl sees refl (λ closed. c.requires.open (closed_shuts v closed));
      idle = quiet_idle (Take ∷ []) 0 (owner_view s) _ refl sees refl refl;
      runs = quiet_runs (Take ∷ []) 0 (owner_view s) _ refl sees refl refl;
    }
