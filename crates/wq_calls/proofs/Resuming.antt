-- What a resume tells the owner.
use Rattle.wq_calls.proofs.Common.{◌≡◌, ℕ, [], ◌∷◌, None, sym, refl, ap, ◌∙◌, subst, busy_word, IsShut, IsDraining, owner_seat, own, Grows, shut_same}
use Rattle.wq_calls.proofs.Common.{Resume, draining_word, Stage, Owns, stage_after, Standing, Steps, Owning as Inside, Open, Sees, batch, owner_view}
use Rattle.wq_calls.proofs.Common.{OwnsQueue, kept_batch}
use Rattle.wq_words.specs.declared.event.Event.TheVariants as event
use Rattle.wq_words.proofs.Seen.{closed_same}
use Rattle.wq_core.proofs.Heads.{head_draining}
use Rattle.wq_table.specs.Plays.{swapped}
use Rattle.wq_calls.proofs.Tells.{Tells}
use Rattle.wq_calls.proofs.Owned.{running_quiet, counts_quiet}
use Rattle.wq_calls.proofs.Phases.{phase_open, open_then}
use Rattle.wq_calls.proofs.OwnerTells.{makes_stands, stands_batch, owner_batch, pair_owner, resume_swaps, swap_tells, owner_grows, owner_sees}
use Rattle.wq_calls.proofs.Linking.{has_row_after}

module _ (s : Inside) (q : Standing) (found : ℕ) (o : OwnsQueue s) (steps : Steps 0 Resume found s.chair q) (drains : IsDraining s.chair.part.seen) where
  abbrev then : Inside
  then = record s { chair = q; phase = Open }

  -- the owner's events say that the queue drained when it was resumed
  drained : IsDraining steps.moves.makes.before.history
  drained =
      let makes = steps.moves.makes in let h = makes.before.history in let v = s.chair.part.seen in
      let mine : own owner_seat h ≡ own owner_seat v = subst (λ (c : ℕ). own c h ≡ own c v) o.number_is makes.fits.mine in
      (shut_same v h mine drains.0, λ closed. drains.1 (closed_same h v (sym mine) closed))

  finds : found ≡ draining_word
  finds = let makes = steps.moves.makes in makes.word_is ∙ head_draining makes.before makes.sound drained

  stage : q.part.stage ≡ Owns None [] (kept_batch s.chair.part.stage)
  stage = steps.moves.makes.stage_is ∙ (ap (λ (st : Stage). stage_after st Resume found) o.has_row.stage_is
      ∙ ap (λ (w : ℕ). swapped w [] (kept_batch s.chair.part.stage)) finds)

  told : Tells (event.Resume ∷ []) s.chair.part q.part
  told = swap_tells Resume busy_word event.Resume resume_swaps found s.chair.part q.part o.number_is
      (pair_owner s.chair.part.stage (kept_batch s.chair.part.stage) o.has_row.stage_is) steps.moves.makes

  grows : Grows owner_seat (event.Resume ∷ []) 0 s.chair.part.seen q.part.seen
  grows = owner_grows (event.Resume ∷ []) 0 s then o told

  pub resume_opens : ¬ IsShut q.part.seen
  resume_opens = open_then 0 s.chair.part.seen q.part.seen grows drains.1

  pub resume_owns : OwnsQueue then
  resume_owns = let p = s.chair.part in let makes = steps.moves.makes in record {
    layout_is = told.layout_is ∙ o.layout_is;
    number_is = told.seat_is ∙ o.number_is;
    stands = makes_stands Resume found p q.part makes;
    has_row = has_row_after Resume found p q.part s.row o.has_row makes (λ j x. refl) stage;
    running_is = o.running_is ∙ sym (running_quiet (event.Resume ∷ []) 0 p.seen q.part.seen grows refl refl);
    phase_is = sym (phase_open q.part.seen resume_opens);
    counts_are = counts_quiet (event.Resume ∷ []) 0 p.seen q.part.seen grows refl refl refl s.counts o.counts_are;
  }

  pub resume_sees : Sees (event.Resume ∷ []) 0 (owner_view s) (owner_view then)
  resume_sees = owner_sees (event.Resume ∷ []) 0 s then (owner_view s) refl o refl steps.queue_is told

  pub resume_empty : batch s.chair.part.seen ≡ [] → batch q.part.seen ≡ []
  resume_empty none =
      sym (stands_batch q.part (kept_batch s.chair.part.stage) (makes_stands Resume found s.chair.part q.part steps.moves.makes) stage)
      ∙ (owner_batch s (owner_view s) refl o ∙ none)
