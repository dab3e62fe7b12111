-- A chaining by the owner, and the row hung behind what waits.
use Rattle.wq_calls.proofs.Common.{◌≡◌, ◌≢◌, ℕ, ◌+◌, ◌==◌, if◌then◌else◌, Bool, List, [], ◌∷◌, ◌++◌, None, MatchBool, eq-eqb, ne_eqb, sym, refl, ap}
use Rattle.wq_calls.proofs.Common.{◌∙◌, subst, owner_seat, Grows, Chain, Owns, Standing, Steps, capped, Sees, batch, Owning as Inside, owner_view}
use Rattle.wq_calls.proofs.Common.{Stands, OnlySees, HasRow, HasBoth, OwnsQueue, kept_batch}
use Rattle.wq_words.specs.declared.event.Event.TheVariants as event
use Rattle.wq_calls.proofs.Tells.{Tells}
use Rattle.wq_calls.proofs.Owned.{running_quiet, counts_chained, counts_busy}
use Rattle.wq_calls.proofs.Phases.{phase_quiet}
use Rattle.wq_calls.proofs.OwnerTells.{makes_stands, stands_batch, owner_batch, pair_owner, chain_tells, chain_stage, owner_grows, owner_sees}
use Rattle.wq_calls.proofs.Linking.{has_row_after}
use Rattle.wq_calls.proofs.Hanging.{chained_behind}
use Rattle.wq_calls.proofs.Taking.{followed}

-- the owner is s before the step, and its chair q after it
module _ (k w : ℕ) (s : Inside) (q : Standing) (o : OwnsQueue s) (steps : Steps 0 (Chain k) w s.chair q) where
  tells_either : MatchBool (w == 0) (Tells (event.Chain k ∷ []) s.chair.part q.part) (Tells (event.ChainBusy k ∷ []) s.chair.part q.part)
  tells_either = chain_tells k w s.chair.part q.part o.number_is (pair_owner s.chair.part.stage (kept_batch s.chair.part.stage) o.has_row.stage_is)
      steps.moves.makes

  stage_either : q.part.stage ≡ Owns None [] (if w == 0 then kept_batch s.chair.part.stage ++ k ∷ [] else kept_batch s.chair.part.stage)
  stage_either = chain_stage k w s.chair.part q.part (kept_batch s.chair.part.stage) o.has_row.stage_is steps.moves.makes

  abbrev staged : Bool → Type 0
  staged b = q.part.stage ≡ Owns None [] (if b then kept_batch s.chair.part.stage ++ k ∷ [] else kept_batch s.chair.part.stage)

  -- its bit was set
  module _ (busy : w ≢ 0) (x : ℕ) (count : x ≡ capped (s.counts.chain_busy + 1)) where
    abbrev found_busy : Inside
    found_busy = record s { chair = q; counts = record s.counts { chain_busy = x } }

    told_busy : Tells (event.ChainBusy k ∷ []) s.chair.part q.part
    told_busy = subst (λ (b : Bool). MatchBool b (Tells (event.Chain k ∷ []) s.chair.part q.part) (Tells (event.ChainBusy k ∷ []) s.chair.part q.part))
        (ne_eqb w 0 busy) tells_either

    stage_busy : q.part.stage ≡ Owns None [] (kept_batch s.chair.part.stage)
    stage_busy = subst staged (ne_eqb w 0 busy) stage_either

    pub busy_owns : OwnsQueue found_busy
    busy_owns =
        let v = s.chair.part.seen in let z = q.part.seen in let xs : List _ = event.ChainBusy k ∷ [] in
        let g : Grows owner_seat xs 0 v z = owner_grows xs 0 s found_busy o told_busy in record {
          layout_is = told_busy.layout_is ∙ o.layout_is;
          number_is = told_busy.seat_is ∙ o.number_is;
          stands = makes_stands (Chain k) w s.chair.part q.part steps.moves.makes;
          has_row = has_row_after (Chain k) w s.chair.part q.part s.row o.has_row steps.moves.makes (λ j y. refl) stage_busy;
          running_is = o.running_is ∙ sym (running_quiet xs 0 v z g refl refl);
          phase_is = o.phase_is ∙ sym (phase_quiet xs 0 v z g refl);
          counts_are = counts_busy xs 0 v z g refl refl refl s.counts o.counts_are x count;
        }

    pub busy_sees : Sees (event.ChainBusy k ∷ []) 0 (owner_view s) (owner_view found_busy)
    busy_sees = owner_sees (event.ChainBusy k ∷ []) 0 s found_busy (owner_view s) refl o refl steps.queue_is told_busy

    pub busy_batch : batch q.part.seen ≡ batch s.chair.part.seen
    busy_batch = sym (stands_batch q.part (kept_batch s.chair.part.stage) (makes_stands (Chain k) w s.chair.part q.part steps.moves.makes) stage_busy)
        ∙ owner_batch s (owner_view s) refl o

  -- it was clear, and the number is hung behind what waits: the owner is t then
  module _ (clear : w ≡ 0) where
    pub clear_tells : Tells (event.Chain k ∷ []) s.chair.part q.part
    clear_tells = subst (λ (b : Bool). MatchBool b (Tells (event.Chain k ∷ []) s.chair.part q.part) (Tells (event.ChainBusy k ∷ []) s.chair.part q.part))
        (eq-eqb w 0 clear) tells_either

    pub clear_stage : q.part.stage ≡ Owns None [] (kept_batch s.chair.part.stage ++ k ∷ [])
    clear_stage = subst staged (eq-eqb w 0 clear) stage_either

    pub clear_behind : HasBoth s.row (record { front = k; last = k; count = 1 }) q.part
    clear_behind = chained_behind k w s.row s.chair.part q.part o.has_row steps.moves.makes clear_stage

    module _ (t : Inside) (follows : OnlySees q.part t.chair.part) (stands : Stands t.chair.part) (has_row : HasRow t.row t.chair.part) where
      told_then : Tells (event.Chain k ∷ []) s.chair.part t.chair.part
      told_then = followed (event.Chain k ∷ []) 0 s.chair.part q.part t.chair.part clear_tells follows stands

      pub chained_owns : t.layout ≡ s.layout → t.running ≡ s.running → t.phase ≡ s.phase → (x : ℕ) → x ≡ capped (s.counts.chained + 1)
          → t.counts ≡ record s.counts { chained = x } → OwnsQueue t
      chained_owns layout running phase x count counts =
          let v = s.chair.part.seen in let z = t.chair.part.seen in let xs : List _ = event.Chain k ∷ [] in
          let g : Grows owner_seat xs 0 v z = owner_grows xs 0 s t o told_then in record {
            layout_is = told_then.layout_is ∙ (o.layout_is ∙ sym layout);
            number_is = told_then.seat_is ∙ o.number_is;
            stands = stands;
            has_row = has_row;
            running_is = running ∙ (o.running_is ∙ sym (running_quiet xs 0 v z g refl refl));
            phase_is = phase ∙ (o.phase_is ∙ sym (phase_quiet xs 0 v z g refl));
            counts_are = counts ∙ counts_chained xs 0 v z g refl refl refl s.counts o.counts_are x count;
          }

      pub chained_sees : t.layout ≡ s.layout → t.chair.queue ≡ q.queue → Sees (event.Chain k ∷ []) 0 (owner_view s) (owner_view t)
      chained_sees layout queue = owner_sees (event.Chain k ∷ []) 0 s t (owner_view s) refl o layout (queue ∙ steps.queue_is) told_then

      pub chained_batch : t.chair.part.stage ≡ q.part.stage → batch t.chair.part.seen ≡ batch s.chair.part.seen ++ k ∷ []
      chained_batch stage = sym (stands_batch t.chair.part (kept_batch s.chair.part.stage ++ k ∷ []) stands (stage ∙ clear_stage))
          ∙ ap (λ (ks : List ℕ). ks ++ k ∷ []) (owner_batch s (owner_view s) refl o)
