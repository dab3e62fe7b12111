use Rattle.wq_calls.proofs.Common.{[], ◌∷◌, refl, sym, ◌∙◌, closed_shuts, standing_of, learns_step, Open, owning, owner_view, kept_batch}
use Rattle.wq_words.specs.declared.event.Event.TheVariants.{Resume}
use Rattle.wq_calls.proofs.OwnerTells.{owner_batch, none_of}
use Rattle.wq_calls.proofs.Resting.{quiet_idle, accepted_still}
use Rattle.wq_calls.proofs.Resuming.{resume_owns, resume_sees, resume_opens, resume_empty}
use Rattle.wq_calls.proofs.OwnerHands.{same_hand, seat_slots}
use Rattle.wq_calls.proofs.OwnerStays.{still_executed}
use Rattle.wq_calls.proofs.owner_seat.OwnerSeat.resume.Goals as goal

pub resume-requires-clause-draining : goal.resume-requires-clause-draining
resume-requires-clause-draining g c = c.requires.draining

pub resume-requires-clause-empty : goal.resume-requires-clause-empty
resume-requires-clause-empty g c = let s = owning c.args.self.now in let o = c.requires.owns.queue in
    none_of s.chair.part.stage (kept_batch s.chair.part.stage) o.has_row.stage_is
    (owner_batch s (owner_view (owning c.args.self.now)) refl o ∙ c.requires.empty)

pub resume-requires-clause-idle : goal.resume-requires-clause-idle
resume-requires-clause-idle g c = c.requires.idle

pub returns : goal.returns
returns g c = let s = owning c.args.self.now in let o = c.requires.owns.queue in let q = standing_of c.resume.new.self in let found = c.resume.ensures.step.0 in
    let steps = c.resume.ensures.step.1.steps in let drains = c.requires.draining in let sees = resume_sees s q found o steps drains in
    let learns = learns_step 0 _ _ _ _ _ c.resume.ensures.step.1 in let owns = resume_owns s q found o steps drains in
    let none = resume_empty s q found o steps drains c.requires.empty in record {
      owns = record {
        queue = owns;
        slots = seat_slots c.args.self.now (record c.args.self.now { chair = c.resume.new.self; phase = Open }) c.requires.owns owns learns
            (same_hand 0 _ _ _ _ _ c.resume.ensures.step.1 (λ moves. moves.1)) (none ∙ sym c.requires.empty) (Resume ∷ []) 0 sees refl;
      };
      learns = learns;
      seen = sees;
      unqueued = accepted_still 0 (Resume ∷ []) (owner_view s) _ sees refl;
      executions = still_executed 0 (Resume ∷ []) (owner_view s) _ refl sees refl refl;
      «open» = resume_opens s q found o steps drains;
      unclosed = λ closed. resume_opens s q found o steps drains (closed_shuts q.part.seen closed);
      empty = none;
      idle = quiet_idle (Resume ∷ []) 0 (owner_view s) _ refl sees refl refl c.requires.idle;
    }
