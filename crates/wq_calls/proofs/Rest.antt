-- What a rest tells the owner.
use Rattle.wq_calls.proofs.Common.{◌≡◌, ◌≢◌, ℕ, Bool, true, false, ◌==◌, if◌then◌else◌, List, [], ◌∷◌, length, None, IsTrue, sym, refl, ap, ◌∙◌, subst}
use Rattle.wq_calls.proofs.Common.{inl, inr, ne_eqb, MatchBool, append-nil, eqb-true, false≢true, count_by, Event, busy_word, begun, ended, IsClosed}
use Rattle.wq_calls.proofs.Common.{IsShut, IsRunning, is_chain, is_chain_busy, owner_seat, own, own_one, shut_same, link_word, Machine, happened}
use Rattle.wq_calls.proofs.Common.{after, IsSound, Part, Stage, Owns, seat_at, stage_after, Makes, Standing, Owning as Inside, Known, IsSame, batch}
use Rattle.wq_calls.proofs.Common.{owner_view, OwnsQueue, kept_batch, Rests}
use Rattle.std.proofs.lemmas.Bool.{eqb-false}
use Rattle.wq_words.specs.declared.event.Event.TheVariants as event
use Rattle.wq_words.specs.Rest.{wakes}
use Rattle.wq_core.specs.declared.step.Step.TheVariants.{Rest}
use Rattle.wq_core.specs.Words.{resting_word}
use Rattle.wq_core.specs.Machine.{head, with_head}
use Rattle.wq_core.proofs.Taken.{head_first, head_wakes}
use Rattle.wq_table.specs.declared.table.Stage.TheVariants.{Sends}
use Rattle.wq_table.specs.Chair.{IsOwner}
use Rattle.wq_calls.specs.Rest.{HasRested, MayNotRest}
use Rattle.wq_calls.proofs.Tells.{Tells, tells, seen_after}
use Rattle.wq_calls.proofs.Owned.{running_quiet, counts_quiet}
use Rattle.wq_calls.proofs.Phases.{is_phase_change, phase_quiet}
use Rattle.wq_calls.proofs.OwnerTells.{makes_stands, stands_batch, pair_owner, owner_grows, owner_sees, owner_batch}
use Rattle.wq_calls.proofs.Linking.{has_row_after}
use Rattle.wq_calls.proofs.Resting.{quiet_idle, open_stays, unclosed_stays}

after_rest : (m : Machine) (c : ℕ) (st : Stage) → IsOwner st
    → after m (seat_at c st) Rest ≡ (if head m == busy_word then happened (with_head m resting_word) event.Rest else m)
after_rest m c (Owns a b d) is = refl
after_rest m c (Sends r) is = elim is [ ]

pub rest_stage : (word : ℕ) (p q : Part) (ks : List ℕ) → p.stage ≡ Owns None [] ks → Makes Rest word p q → q.stage ≡ Owns None [] ks
rest_stage word p q ks is makes = makes.stage_is ∙ ap (λ (st : Stage). stage_after st Rest word) is

-- a head that is not the mark of a queue at work says why none rests
no_rest : (m : Machine) → IsSound m → ¬ IsShut m.history → head m ≢ busy_word → MayNotRest m.history
no_rest m sound opens other = go (wakes m.history) refl
  where
    go : (b : Bool) → wakes m.history ≡ b → MayNotRest m.history
    go true is = inr is
    go false is =
        let some = eqb-false (head m) 0 (head_wakes m sound opens ∙ is) in
        let same : link_word (head m) ≡ head m = ap (λ (b : Bool). if b then 0 else head m) (ne_eqb (head m) busy_word other) in
        inl (sym (head_first m sound opens) ∙ (ap (λ (w : ℕ). w == 0) same ∙ ne_eqb (head m) 0 some))

-- the owner rests, and the queue with it
pub record Marks (p q : Part) : Type 0 where
  pub told : Tells (event.Rest ∷ []) p q
  pub rested : HasRested q.seen

-- the head was another
pub record FindsOther (p q : Part) : Type 0 where
  pub told : Tells [] p q
  pub refused : MayNotRest q.seen

pub rest_tells : (word : ℕ) (p q : Part) → p.seat ≡ owner_seat → IsOwner p.stage → ¬ IsShut p.seen → Makes Rest word p q
    → MatchBool (word == busy_word) (Marks p q) (FindsOther p q)
rest_tells word p q mine is opens makes =
    subst (λ (w : ℕ). MatchBool (w == busy_word) (Marks p q) (FindsOther p q)) (sym makes.word_is)
    (go (head makes.before == busy_word) refl (after_rest makes.before p.seat p.stage is))
  where
    open_before : ¬ IsShut makes.before.history
    open_before shut = opens (shut_same makes.before.history p.seen (subst (λ (c : ℕ). own c p.seen ≡ own c makes.before.history) mine
        (sym makes.fits.mine)) shut)

    marked : after makes.before (seat_at p.seat p.stage) Rest ≡ happened (with_head makes.before resting_word) event.Rest
        → head makes.before ≡ busy_word → Marks p q
    marked e busy = let m = makes.before in record {
      told = tells Rest word p q makes _ _ e refl refl (own_one p.seat event.Rest (sym mine));
      rested = record {
        before = m.history;
        is = seen_after Rest word p q makes _ _ e refl;
        first_is = sym (head_first m makes.sound open_before) ∙ ap (λ (w : ℕ). link_word w == 0) busy;
        wakes_is = sym (head_wakes m makes.sound open_before) ∙ ap (λ (w : ℕ). w == 0) busy;
      };
    }

    left : after makes.before (seat_at p.seat p.stage) Rest ≡ makes.before → head makes.before ≢ busy_word → FindsOther p q
    left e other = let m = makes.before in record {
      told = tells Rest word p q makes _ [] e refl (sym (append-nil m.history)) refl;
      refused = subst MayNotRest (sym (makes.seen_is ∙ ap (λ (x : Machine). x.history) e)) (no_rest m makes.sound open_before other);
    }

    go : (b : Bool) → (head makes.before == busy_word) ≡ b
        → after makes.before (seat_at p.seat p.stage) Rest ≡ (if b then happened (with_head makes.before resting_word) event.Rest else makes.before)
        → MatchBool b (Marks p q) (FindsOther p q)
    go true same e = marked e (eqb-true (head makes.before) busy_word same)
    go false other e = left e (eqb-false (head makes.before) busy_word other)

-- the owner that makes the step, in state s before and with the chair q after
module _ (s : Inside) (q : Standing) (now : Known) (word : ℕ) (view : owner_view s ≡ now) (o : OwnsQueue s) (queue : q.queue ≡ s.chair.queue)
    (makes : Makes Rest word s.chair.part q.part) (opens : ¬ IsShut now.seen) where
  told : MatchBool (word == busy_word) (Marks s.chair.part q.part) (FindsOther s.chair.part q.part)
  told = rest_tells word s.chair.part q.part o.number_is (pair_owner s.chair.part.stage (kept_batch s.chair.part.stage) o.has_row.stage_is)
      (subst (λ (v : Known). ¬ IsShut v.seen) (sym view) opens) makes

  stage : q.part.stage ≡ Owns None [] (kept_batch s.chair.part.stage)
  stage = rest_stage word s.chair.part q.part (kept_batch s.chair.part.stage) o.has_row.stage_is makes

  owns : (xs : List Event) → Tells xs s.chair.part q.part → begun xs ≡ [] → ended xs ≡ [] → count_by is_phase_change xs ≡ 0 → count_by is_chain xs ≡ 0
      → count_by is_chain_busy xs ≡ 0 → OwnsQueue (record s { chair = q })
  owns xs tells b e c chained busy =
      let v = s.chair.part.seen in let w = q.part.seen in let g = owner_grows xs 0 s (record s { chair = q }) o tells in record {
        layout_is = tells.layout_is ∙ o.layout_is;
        number_is = tells.seat_is ∙ o.number_is;
        stands = makes_stands Rest word s.chair.part q.part makes;
        has_row = has_row_after Rest word s.chair.part q.part s.row o.has_row makes (λ j x. refl) stage;
        running_is = o.running_is ∙ sym (running_quiet xs 0 v w g b e);
        phase_is = o.phase_is ∙ sym (phase_quiet xs 0 v w g c);
        counts_are = counts_quiet xs 0 v w g chained busy (ap (λ (ks : List ℕ). length ks) e) s.counts o.counts_are;
      }

  pub rest_owns : OwnsQueue (record s { chair = q })
  rest_owns = go (word == busy_word) told
    where
      go : (b : Bool) → MatchBool b (Marks s.chair.part q.part) (FindsOther s.chair.part q.part) → OwnsQueue (record s { chair = q })
      go true m = owns (event.Rest ∷ []) m.told refl refl refl refl refl
      go false l = owns [] l.told refl refl refl refl refl

  pub rest_sees : Rests (word == busy_word) now (owner_view (record s { chair = q }))
  rest_sees = go (word == busy_word) told
    where
      go : (b : Bool) → MatchBool b (Marks s.chair.part q.part) (FindsOther s.chair.part q.part) → Rests b now (owner_view (record s { chair = q }))
      go true m = owner_sees (event.Rest ∷ []) 0 s (record s { chair = q }) now view o refl queue m.told
      go false l = owner_sees [] 0 s (record s { chair = q }) now view o refl queue l.told

  pub rest_rested : IsTrue (word == busy_word) → HasRested q.part.seen
  rest_rested = go (word == busy_word) told
    where
      go : (b : Bool) → MatchBool b (Marks s.chair.part q.part) (FindsOther s.chair.part q.part) → IsTrue b → HasRested q.part.seen
      go true m is = m.rested
      go false l is = absurd (false≢true is)

  pub rest_refused : (word == busy_word) ≡ false → MayNotRest q.part.seen
  rest_refused = go (word == busy_word) told
    where
      go : (b : Bool) → MatchBool b (Marks s.chair.part q.part) (FindsOther s.chair.part q.part) → b ≡ false → MayNotRest q.part.seen
      go true m is = absurd (false≢true (sym is))
      go false l is = l.refused

  pub rest_empty : batch now.seen ≡ [] → batch q.part.seen ≡ []
  rest_empty none =
      sym (stands_batch q.part (kept_batch s.chair.part.stage) (makes_stands Rest word s.chair.part q.part makes) stage) ∙ (owner_batch s now view o ∙ none)

-- what holds of either answer
pub rests_same : (b : Bool) (old new : Known) → Rests b old new → IsSame old new
rests_same true old new sees = sees.same
rests_same false old new sees = sees.same

pub rests_idle : (b : Bool) (old new : Known) → old.number ≡ owner_seat → Rests b old new → ¬ IsRunning old.seen → ¬ IsRunning new.seen
rests_idle true old new mine sees = quiet_idle (event.Rest ∷ []) 0 old new mine sees refl refl
rests_idle false old new mine sees = quiet_idle [] 0 old new mine sees refl refl

pub rests_open : (b : Bool) (old new : Known) → old.number ≡ owner_seat → Rests b old new → ¬ IsShut old.seen → ¬ IsShut new.seen
rests_open true old new mine sees = open_stays (event.Rest ∷ []) 0 old new mine sees refl
rests_open false old new mine sees = open_stays [] 0 old new mine sees refl

pub rests_unclosed : (b : Bool) (old new : Known) → old.number ≡ owner_seat → Rests b old new → ¬ IsClosed old.seen → ¬ IsClosed new.seen
rests_unclosed true old new mine sees = unclosed_stays (event.Rest ∷ []) 0 old new mine sees refl
rests_unclosed false old new mine sees = unclosed_stays [] 0 old new mine sees refl
