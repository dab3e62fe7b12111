use Rattle.wq_calls.proofs.Common.{◌==◌, refl, sym, ◌∙◌, closed_shuts, busy_word, standing_of, learns_step, owning, owner_view, kept_batch}
use Rattle.wq_calls.proofs.OwnerTells.{owner_batch, none_of}
use Rattle.wq_calls.proofs.Rest.{rest_owns, rest_sees, rest_rested, rest_refused, rest_empty, rests_same, rests_idle, rests_open, rests_unclosed}
use Rattle.wq_calls.proofs.Resting.{accepted_rested}
use Rattle.wq_calls.proofs.OwnerHands.{same_hand, rest_slots}
use Rattle.wq_calls.proofs.OwnerStays.{still_rested}
use Rattle.wq_calls.proofs.owner_seat.OwnerSeat.rest.Goals as goal

pub rest-head-requires-clause-open : goal.rest-head-requires-clause-open
rest-head-requires-clause-open g c = c.requires.open

pub rest-head-requires-clause-empty : goal.rest-head-requires-clause-empty
rest-head-requires-clause-empty g c = let s = owning c.args.self.now in let o = c.requires.owns.queue in
    none_of s.chair.part.stage (kept_batch s.chair.part.stage) o.has_row.stage_is
    (owner_batch s (owner_view (owning c.args.self.now)) refl o ∙ c.requires.empty)

pub rest-head-requires-clause-idle : goal.rest-head-requires-clause-idle
rest-head-requires-clause-idle g c = c.requires.idle

pub returns : goal.returns
returns g c = let s = owning c.args.self.now in let o = c.requires.owns.queue in let e = c.rest-head.ensures.step.steps in
    let q = standing_of c.rest-head.new.self in
    let w = c.rest-head.result in
    let now = (owner_view (owning c.args.self.now)) in let mine = refl in
    let sees = rest_sees s q now w refl o e.queue_is e.moves.makes c.requires.open in
    let learns = learns_step 0 _ _ _ _ _ c.rest-head.ensures.step in let owns = rest_owns s q now w refl o e.queue_is e.moves.makes c.requires.open in
    let none = rest_empty s q now w refl o e.queue_is e.moves.makes c.requires.open c.requires.empty in record {
      owns = record {
        queue = owns;
        slots = rest_slots c.args.self.now (record c.args.self.now { chair = c.rest-head.new.self }) c.requires.owns owns learns
            (same_hand 0 _ _ _ _ _ c.rest-head.ensures.step (λ moves. moves.1)) (none ∙ sym c.requires.empty) (w == busy_word) sees;
      };
      learns = learns;
      seen = sees;
      unqueued = accepted_rested (w == busy_word) now _ sees;
      executions = still_rested (w == busy_word) now _ mine sees;
      rested = rest_rested s q now w refl o e.queue_is e.moves.makes c.requires.open;
      refused = rest_refused s q now w refl o e.queue_is e.moves.makes c.requires.open;
      same = rests_same _ now _ sees;
      «open» = rests_open _ now _ mine sees c.requires.open;
      unclosed = rests_unclosed _ now _ mine sees (λ closed. c.requires.open (closed_shuts now.seen closed));
      empty = none;
      idle = rests_idle _ now _ mine sees c.requires.idle;
    }
