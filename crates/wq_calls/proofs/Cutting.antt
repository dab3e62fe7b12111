-- A swap of the head by the owner, and the walk of what was found.
use Rattle.wq_calls.proofs.Common.{◌≡◌, ℕ, ◌+◌, List, [], ◌∷◌, length, None, sym, refl, ap, ◌∙◌, subst, arith, IsPrefix, Event, owner_seat, Grows}
use Rattle.wq_calls.proofs.Common.{Step, head_at, item_of, Standing, Steps, ValueStanding, standing_of, ValueSteps, learns_step, Owning as Inside}
use Rattle.wq_calls.proofs.Common.{Sees, batch, TakesAll, OwnerSeat, OwnsSlots, OwnsSeat, owning, owner_view, Stands, OnlySees, HasRow, OwnsQueue}
use Rattle.wq_calls.proofs.Common.{phase, kept_batch, walking}
use Rattle.wq_calls.proofs.Tells.{Tells}
use Rattle.wq_calls.proofs.Owned.{running_quiet, counts_quiet}
use Rattle.wq_calls.proofs.OwnerTells.{stands_batch, owner_batch, pair_owner, Swaps, swap_tells, swap_stage, owner_grows, owner_sees}
use Rattle.wq_calls.proofs.OwnerHands.{slots_told}
use Rattle.wq_calls.proofs.Linking.{walks_kept, walks_batch}
use Rattle.wq_calls.proofs.Taken.{CutsAll}
use Rattle.wq_calls.proofs.Taking.{followed, cut_takes}

-- the owner is s before, its chair q after the swap, and it is t after the walk
module _ (st : Step) (word : ℕ) (e : Event) (swaps : Swaps st word e) (found : ℕ) (s : Inside) (q : Standing) (o : OwnsQueue s)
    (steps : Steps 0 st found s.chair q) where
  -- what the head had is to be walked
  pub cut_stage : q.part.stage ≡ walking (item_of (head_at found)) [] (kept_batch s.chair.part.stage)
  cut_stage = swap_stage st word e swaps found s.chair.part q.part (kept_batch s.chair.part.stage) o.has_row.stage_is steps.moves.makes

  pub cut_kept : q.part.stage ≡ walking (item_of (head_at found)) [] (kept_batch q.part.stage)
  cut_kept = walks_kept q.part.stage (item_of (head_at found)) (kept_batch s.chair.part.stage) cut_stage

  module _ (t : Inside) (follows : OnlySees q.part t.chair.part) (stands : Stands t.chair.part) (has_row : HasRow t.row t.chair.part) where
    told : Tells (e ∷ []) s.chair.part t.chair.part
    told = followed (e ∷ []) 0 s.chair.part q.part t.chair.part (swap_tells st word e swaps found s.chair.part q.part o.number_is
        (pair_owner s.chair.part.stage (kept_batch s.chair.part.stage) o.has_row.stage_is) steps.moves.makes) follows stands

    pub cut_grows : Grows owner_seat (e ∷ []) 0 s.chair.part.seen t.chair.part.seen
    cut_grows = owner_grows (e ∷ []) 0 s t o told

    pub cut_owns : t.layout ≡ s.layout → t.running ≡ s.running → t.counts ≡ s.counts → t.phase ≡ phase t.chair.part.seen → OwnsQueue t
    cut_owns layout running counts phase_is = let v = s.chair.part.seen in let w = t.chair.part.seen in record {
      layout_is = told.layout_is ∙ (o.layout_is ∙ sym layout);
      number_is = told.seat_is ∙ o.number_is;
      stands = stands;
      has_row = has_row;
      running_is = running ∙ (o.running_is ∙ sym (running_quiet (e ∷ []) 0 v w cut_grows swaps.begins swaps.ends));
      phase_is = phase_is;
      counts_are = counts ∙ counts_quiet (e ∷ []) 0 v w cut_grows swaps.chains swaps.finds (ap (λ (x : List ℕ). length x) swaps.ends) s.counts o.counts_are;
    }

    pub cut_sees : t.layout ≡ s.layout → t.chair.queue ≡ q.queue → Sees (e ∷ []) 0 (owner_view s) (owner_view t)
    cut_sees layout queue = owner_sees (e ∷ []) 0 s t (owner_view s) refl o layout (queue ∙ steps.queue_is) told

    pub cut_all : CutsAll e → (count : ℕ) → count + s.row.count ≡ t.row.count → TakesAll e count t.chair.part.seen
    cut_all cuts count total = cut_takes found s.chair.part q.part t.chair.part (kept_batch s.chair.part.stage) (kept_batch t.chair.part.stage) count
        o.number_is o.has_row.stage_is follows stands has_row.stage_is
        (omega (arith, total, o.has_row.row_is.count_is, has_row.row_is.count_is)) st word e swaps cuts steps.moves.makes

    -- the batch is what waited, and behind it what was taken
    batch_now : kept_batch t.chair.part.stage ≡ batch t.chair.part.seen
    batch_now = stands_batch t.chair.part (kept_batch t.chair.part.stage) stands has_row.stage_is

    pub cut_behind : IsPrefix (kept_batch q.part.stage) (kept_batch t.chair.part.stage) → IsPrefix (batch s.chair.part.seen) (batch t.chair.part.seen)
    cut_behind behind = subst (λ (z : List ℕ × List ℕ). IsPrefix z.0 z.1)
        (λ i. (
          (walks_batch q.part.stage (item_of (head_at found)) (kept_batch s.chair.part.stage) cut_stage ∙ owner_batch s (owner_view s) refl o) i,
          batch_now i,
        ))
        behind

    pub cut_count : (count : ℕ) → count + s.row.count ≡ t.row.count → length (batch t.chair.part.seen) ≡ length (batch s.chair.part.seen) + count
    cut_count count total = omega (
      arith,
      total,
      o.has_row.row_is.count_is,
      has_row.row_is.count_is,
      ap (λ (xs : List ℕ). length xs) batch_now,
      ap (λ (xs : List ℕ). length xs) (owner_batch s (owner_view s) refl o),
    )

-- the slots of what waited are in hand still
pub cut_slots : {V : Type 0} (st : Step) (word : ℕ) (e : Event) (swaps : Swaps st word e) (found : ℕ) (s : OwnerSeat V) (new : ValueStanding V)
    (owns : OwnsSeat s)
    (steps : ValueSteps 0 None st found s.chair new) → new.hand ≡ s.chair.hand → OwnsSlots new (kept_batch new.first.part.stage)
cut_slots st word e swaps found s new owns steps hand =
    let p = s.chair.first.part in let ks = kept_batch p.stage in let o = owns.queue in
    subst (OwnsSlots new)
    (sym (walks_batch new.first.part.stage (item_of (head_at found)) ks (cut_stage st word e swaps found (owning s) (standing_of new) o steps.steps)))
    (slots_told s.chair new ks o.number_is (e ∷ []) 0 (learns_step 0 None st found s.chair new steps)
    (swap_tells st word e swaps found p new.first.part o.number_is (pair_owner p.stage ks o.has_row.stage_is) steps.steps.moves.makes) swaps.begins hand
    owns.slots)
