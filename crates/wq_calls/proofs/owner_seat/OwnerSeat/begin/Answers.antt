use Rattle.wq_calls.proofs.Common.{◌≢◌, ◌<◌, ℕ, List, [], ◌∷◌, length, Some, slice_get, ap, sym, refl, ◌∙◌, subst, arith, Begin, IsRunning}
use Rattle.wq_calls.proofs.Common.{runs_from_running, standing_of, beside_queue, learns_follow, OwnsSlots, owning, owner_view, kept_batch}
use Rattle.wq_table.proofs.Learns.{or_then}
use Rattle.wq_calls.proofs.Tells.{Tells}
use Rattle.wq_calls.proofs.Owned.{running_begun, counts_quiet, rests_on}
use Rattle.wq_calls.proofs.Phases.{phase_quiet}
use Rattle.wq_calls.proofs.Taking.{sees_then}
use Rattle.wq_calls.proofs.Resting.{shut_stays, closed_stays, open_stays, unclosed_stays, accepted_still}
use Rattle.wq_calls.proofs.Hanging.{first_of_row, first_known, begun_row}
use Rattle.wq_calls.proofs.OwnerTells.{makes_stands, stands_batch, to_begin, begin_tells, begin_stage, owner_batch, owner_idle, owner_grows, owner_sees}
use Rattle.wq_calls.proofs.OwnerHands.{begin_slots, emptied_batch}
use Rattle.wq_calls.proofs.OwnerStays.{begun_grows, ended_grows}
use Rattle.std.proofs.lemmas.List.{append-nil}
use Rattle.wq_words.specs.History.{ended}
use Rattle.wq_calls.proofs.owner_seat.OwnerSeat.begin.Goals as goal

some_length : (xs : List ℕ) → xs ≢ [] → 0 < length xs
some_length [] some = absurd (some refl)
some_length (x ∷ xs) some = omega arith

pub without_first-self-requires-clause-some : goal.without_first-self-requires-clause-some
without_first-self-requires-clause-some g c = let s = owning c.args.self.now in let o = c.requires.owns in
    let some : kept_batch s.chair.part.stage ≢ [] = λ none. c.requires.waits (sym (owner_batch s (owner_view (owning c.args.self.now)) refl o) ∙ none) in
    omega (arith, some_length (kept_batch s.chair.part.stage) some, o.has_row.row_is.count_is)

pub begin-requires-clause-number : goal.begin-requires-clause-number
begin-requires-clause-number g c = let e = c.without_first-self.ensures in let q = c.without_first-self.new.chair.first.part in
    first_known c.args.self.now.row.front c.without_first-self.result q e.stands e.first

pub begin-requires-clause-next : goal.begin-requires-clause-next
begin-requires-clause-next g c = let e = c.without_first-self.ensures in let q = c.without_first-self.new.chair.first.part in
    to_begin q.stage c.args.self.now.row.front e.first.others e.first.stage_is

pub begin-requires-clause-slot : goal.begin-requires-clause-slot
begin-requires-clause-slot g c deep = let w = c.without_first-self in let e = w.ensures in
    ((emptied_batch c.args.self.now.row.front e.first.others c.args.self.now.chair w.new.chair c.requires.owns.number_is e.learns e.follows e.hand e.stage
    e.first.stage_is c.requires.slots).some deep).0

pub begin-requires-clause-idle : goal.begin-requires-clause-idle
begin-requires-clause-idle g c = let s = owning c.args.self.now in let o = c.requires.owns in let e = c.without_first-self.ensures in
    let p = s.chair.part in let q = c.without_first-self.new.chair.first.part in
    rests_on p.seat p.seen q.seen o.number_is e.follows.grows (c.requires.idle)

pub returns-clause-owns : goal.returns-clause-owns
returns-clause-owns g c = let s = owning c.args.self.now in let o = c.requires.owns in let e = c.without_first-self.ensures in let k = s.row.front in
    let p = s.chair.part in let q = c.without_first-self.new.chair.first.part in let r = c.begin.new.self.first.part in
    let makes = c.begin.ensures.step.1.steps.moves.makes in
    let first = e.first in let found = c.begin.ensures.step.0 in
    let told : Tells (Begin k ∷ []) p r = sees_then (λ _. Begin k ∷ []) p q r e.follows e.stands
    (begin_tells k found q r first.others (e.follows.seat_is ∙ o.number_is) first.stage_is makes) in
    let t = record s { chair = standing_of c.begin.new.self; row = c.without_first-self.result; running = Some k } in
    let grows = owner_grows (Begin k ∷ []) 0 s t o told in
    let stage = begin_stage k found q r first.others first.stage_is makes in
    let idle : ¬ IsRunning p.seen = c.requires.idle in record {
      queue = record {
        layout_is = told.layout_is ∙ o.layout_is;
        number_is = told.seat_is ∙ o.number_is;
        stands = makes_stands _ _ q r makes;
        has_row = begun_row k found c.without_first-self.result q r first makes stage;
        running_is = sym (running_begun k 0 p.seen r.seen grows (owner_idle p o.stands idle));
        phase_is = o.phase_is ∙ sym (phase_quiet (Begin k ∷ []) 0 p.seen r.seen grows refl);
        counts_are = counts_quiet (Begin k ∷ []) 0 p.seen r.seen grows refl refl refl s.counts o.counts_are;
      };
      slots = subst (OwnsSlots c.begin.new.self) (sym (ap kept_batch stage))
          (begin_slots found k first.others c.without_first-self.new.chair c.begin.new.self (e.follows.seat_is ∙ o.number_is) first.stage_is e.stands
          c.begin.ensures.step.1
          (emptied_batch k first.others c.args.self.now.chair c.without_first-self.new.chair o.number_is e.learns e.follows e.hand e.stage first.stage_is
          c.requires.slots));
    }

pub returns-clause-next : goal.returns-clause-next
returns-clause-next g c = let s = owning c.args.self.now in let o = c.requires.owns in
    let some : kept_batch s.chair.part.stage ≢ [] = λ none. c.requires.waits (sym (owner_batch s (owner_view (owning c.args.self.now)) refl o) ∙ none) in
    let more : 0 < s.row.count = omega (arith, some_length (kept_batch s.chair.part.stage) some, o.has_row.row_is.count_is) in
    let front = first_of_row s.row s.chair.part o.has_row more in
    ap (λ (xs : List ℕ). slice_get xs 0) (sym (owner_batch s (owner_view (owning c.args.self.now)) refl o) ∙ ap kept_batch front.1)

pub returns-clause-seen : goal.returns-clause-seen
returns-clause-seen g c = let s = owning c.args.self.now in let o = c.requires.owns in let e = c.without_first-self.ensures in let k = s.row.front in
    let p = s.chair.part in let q = c.without_first-self.new.chair.first.part in let r = c.begin.new.self.first.part in
    let makes = c.begin.ensures.step.1.steps.moves.makes in
    let first = e.first in
    let told : Tells (Begin k ∷ []) p r = sees_then (λ _. Begin k ∷ []) p q r e.follows e.stands
    (begin_tells k c.begin.ensures.step.0 q r first.others (e.follows.seat_is ∙ o.number_is) first.stage_is makes) in
    let t = record s { chair = standing_of c.begin.new.self; row = c.without_first-self.result; running = Some k } in
    owner_sees (Begin k ∷ []) 0 s t (owner_view (owning c.args.self.now)) refl o refl
    (c.begin.ensures.step.1.steps.queue_is ∙ beside_queue 0 _ _ (learns_follow 0 _ _ e.learns)) told

pub returns-clause-unqueued : goal.returns-clause-unqueued
returns-clause-unqueued g c = accepted_still 0 (Begin c.args.self.now.row.front ∷ []) (owner_view (owning c.args.self.now)) _ (returns-clause-seen g c) refl

pub returns-clause-executions : goal.returns-clause-executions
returns-clause-executions g c = let k = c.args.self.now.row.front in let v = owner_view (owning c.args.self.now) in let sees = returns-clause-seen g c in (
  begun_grows 0 (Begin k ∷ []) v _ refl sees,
  ended_grows 0 (Begin k ∷ []) v _ refl sees ∙ append-nil (ended v.seen),
)

pub returns-clause-running : goal.returns-clause-running
returns-clause-running g c = let s = owning c.args.self.now in let o = c.requires.owns in let e = c.without_first-self.ensures in let k = s.row.front in
    let p = s.chair.part in let q = c.without_first-self.new.chair.first.part in let r = c.begin.new.self.first.part in
    let makes = c.begin.ensures.step.1.steps.moves.makes in
    let told : Tells (Begin k ∷ []) p r = sees_then (λ _. Begin k ∷ []) p q r e.follows e.stands
    (begin_tells k c.begin.ensures.step.0 q r e.first.others (e.follows.seat_is ∙ o.number_is) e.first.stage_is makes) in
    let t = record s { chair = standing_of c.begin.new.self; row = c.without_first-self.result; running = Some k } in
    let idle : ¬ IsRunning p.seen = c.requires.idle in
    running_begun k 0 p.seen r.seen (owner_grows (Begin k ∷ []) 0 s t o told) (owner_idle p o.stands idle)

pub returns-clause-runs : goal.returns-clause-runs
returns-clause-runs g c = runs_from_running c.begin.new.self.first.part.seen c.args.self.now.row.front (returns-clause-running g c)

pub returns-clause-batch : goal.returns-clause-batch
returns-clause-batch g c = let s = owning c.args.self.now in let o = c.requires.owns in let e = c.without_first-self.ensures in let k = s.row.front in
    let q = c.without_first-self.new.chair.first.part in let r = c.begin.new.self.first.part in let makes = c.begin.ensures.step.1.steps.moves.makes in
    let others = e.first.others in
    sym (owner_batch s (owner_view (owning c.args.self.now)) refl o) ∙ (ap kept_batch (sym e.stage ∙ e.first.stage_is) ∙
    ap (λ (xs : List ℕ). k ∷ xs) (stands_batch r others (makes_stands _ _ q r makes)
    (begin_stage k c.begin.ensures.step.0 q r others e.first.stage_is makes)))

pub returns-clause-shut : goal.returns-clause-shut
returns-clause-shut g c = shut_stays (Begin c.args.self.now.row.front ∷ []) 0 (owner_view (owning c.args.self.now)) _ refl
    (returns-clause-seen g c) refl

pub returns-clause-closed : goal.returns-clause-closed
returns-clause-closed g c = closed_stays (Begin c.args.self.now.row.front ∷ []) 0 (owner_view (owning c.args.self.now)) _ (returns-clause-seen g c)

pub returns-clause-open : goal.returns-clause-open
returns-clause-open g c = open_stays (Begin c.args.self.now.row.front ∷ []) 0 (owner_view (owning c.args.self.now)) _ refl
    (returns-clause-seen g c) refl

pub returns-clause-unclosed : goal.returns-clause-unclosed
returns-clause-unclosed g c = unclosed_stays (Begin c.args.self.now.row.front ∷ []) 0 (owner_view (owning c.args.self.now)) _ refl
    (returns-clause-seen g c) refl

pub returns-clause-learns : goal.returns-clause-learns
returns-clause-learns g c = or_then 0 _ _ _ _ _ _ c.without_first-self.ensures.learns c.begin.ensures.step.1
