use Rattle.wq_calls.proofs.Common.{◌≡◌, ℕ, [], ◌∷◌, Some, None, sym, refl, ◌∙◌, End, IsRunning, running, runs_some, rests_from_running, learns_step}
use Rattle.wq_calls.proofs.Common.{Sees, OwnerSeat, owning, kept_batch, owner_view, OwnsQueue}
use Rattle.wq_calls.proofs.Tells.{Tells}
use Rattle.wq_calls.proofs.Owned.{running_ended, counts_ended}
use Rattle.wq_calls.proofs.Phases.{phase_quiet}
use Rattle.wq_core.specs.declared.step.Step.TheVariants as step
use Rattle.wq_calls.proofs.Linking.{has_row_after}
use Rattle.wq_calls.proofs.Resting.{closed_stays, unclosed_stays, shut_stays, open_stays, accepted_still}
use Rattle.wq_calls.proofs.OwnerTells.{makes_stands, stands_batch, owner_batch, pair_owner, end_tells, end_stage, owner_runs, owner_grows, owner_sees}
use Rattle.wq_calls.proofs.OwnerHands.{same_hand, seat_slots}
use Rattle.wq_calls.proofs.OwnerStays.{ends_running}
use Rattle.wq_calls.proofs.owner_seat.OwnerSeat.end.Goals as goal

pub returns : goal.returns
returns g c = let s = owning c.args.self.now in let o = c.requires.owns.queue in let p = s.chair.part in let q = c.end.new.self.first.part in
    let x = c.saturating_add-self.result in let found = c.end.ensures.step.0 in let makes = c.end.ensures.step.1.steps.moves.makes in
    let t' : OwnerSeat g.row.V.Denot = record c.args.self.now { chair = c.end.new.self; running = None; counts = record s.counts { ended = x } } in
    let t = owning t' in
    let runs : IsRunning p.seen = c.requires.runs in
    let some = runs_some p.seen runs in
    let tells : (k : ℕ) → running p.seen ≡ Some k → Tells (End k ∷ []) p q = λ k known.
    end_tells k found p q o.number_is (pair_owner p.stage (kept_batch p.stage) o.has_row.stage_is) known makes in
    let sees : (k : ℕ) → running p.seen ≡ Some k → Sees (End k ∷ []) 0 (owner_view s) (owner_view t) = λ k known.
    owner_sees (End k ∷ []) 0 s t (owner_view s) refl o refl c.end.ensures.step.1.steps.queue_is (tells k known) in
    let k = some.0 in let told = tells k some.1 in let saw = sees k some.1 in
    let grows = owner_grows (End k ∷ []) 0 s t o told in
    let stage = end_stage found p q (kept_batch p.stage) o.has_row.stage_is makes in
    let owns : OwnsQueue t = record {
      layout_is = told.layout_is ∙ o.layout_is;
      number_is = told.seat_is ∙ o.number_is;
      stands = makes_stands _ _ p q makes;
      has_row = has_row_after step.End found p q s.row o.has_row makes (λ j v. refl) stage;
      running_is = sym (running_ended k 0 p.seen q.seen grows (owner_runs p o.stands runs));
      phase_is = o.phase_is ∙ sym (phase_quiet (End k ∷ []) 0 p.seen q.seen grows refl);
      counts_are = counts_ended (End k ∷ []) 0 p.seen q.seen grows refl refl refl s.counts o.counts_are x c.saturating_add-self.ensures;
    } in
    let learns = learns_step 0 _ _ _ _ _ c.end.ensures.step.1 in
    let batch_is = sym (stands_batch q (kept_batch p.stage) (makes_stands _ _ p q makes) stage) ∙ owner_batch s (owner_view s) refl o in record {
      owns = record {
        queue = owns;
        slots = seat_slots c.args.self.now t' c.requires.owns owns learns
            (same_hand 0 _ _ _ _ _ c.end.ensures.step.1 (λ moves. moves.1)) batch_is (End k ∷ []) 0 saw refl;
      };
      learns = learns;
      seen = sees;
      unqueued = accepted_still 0 (End k ∷ []) (owner_view s) (owner_view t) saw refl;
      executions = ends_running (owner_view s) (owner_view t) refl sees k some.1;
      same = saw.same;
      batch = batch_is;
      shut = shut_stays (End k ∷ []) 0 (owner_view s) (owner_view t) refl saw refl;
      closed = closed_stays (End k ∷ []) 0 (owner_view s) (owner_view t) saw;
      «open» = open_stays (End k ∷ []) 0 (owner_view s) (owner_view t) refl saw refl;
      unclosed = unclosed_stays (End k ∷ []) 0 (owner_view s) (owner_view t) refl saw refl;
      idle = rests_from_running q.seen (running_ended k 0 p.seen q.seen grows (owner_runs p o.stands runs));
    }
