-- What each kind of the owner's steps tells it.
use Rattle.wq_calls.proofs.Common.{◌≡◌, ℕ, ◌+◌, ◌-◌, Bool, true, false, ◌==◌, if◌then◌else◌, List, [], ◌∷◌, ◌++◌, length, Option, Some, None}
use Rattle.wq_calls.proofs.Common.{slice_get, sym, refl, ap, ◌∙◌, subst, arith, MatchBool, append-nil, Layout, Event, begun, ended, running, IsRunning}
use Rattle.wq_calls.proofs.Common.{is_chain, is_chain_busy, count_by, in_order, prefix_length, IsLegal, Step, Resume, Walk, Chain, busy_word}
use Rattle.wq_calls.proofs.Common.{closed_word, draining_word, number_at, head_at, item_of, Machine, item_word, with_item, happened, after, Part}
use Rattle.wq_calls.proofs.Common.{Stage, Owns, owner_seat, seat_of, own, Grows, seat_at, HasStage, stage_after, Makes, own_one, begun_same}
use Rattle.wq_calls.proofs.Common.{Owning as Inside, Known, Sees, batch, owner_view, Stands, OwnsQueue, kept_batch, walking}
use Rattle.wq_words.specs.declared.event.Event.TheVariants as event
use Rattle.wq_core.specs.declared.step.Step.TheVariants.{Take, Close, Drain, Begin, End}
use Rattle.wq_core.specs.declared.step.Seat.TheVariants.{Owner}
use Rattle.wq_core.specs.Machine.{link, walked_past, after_swap, after_walk, after_begin, after_end}
use Rattle.wq_core.proofs.Taken.{batch_is}
use Rattle.wq_table.specs.declared.table.Stage.TheVariants.{Sends}
use Rattle.wq_table.specs.Plays.{swapped, walked_on}
use Rattle.wq_table.specs.Chair.{IsOwner, HasNone, IsToBegin}
use Rattle.wq_words.proofs.Seen.{ended_same}
use Rattle.wq_calls.proofs.Tells.{Tells, TellsSo, tells}

pub makes_stands : (step : Step) (word : ℕ) (p q : Part) → Makes step word p q → Stands q
makes_stands step word p q makes = record {
  machine = after makes.before
      (seat_at p.seat p.stage) step;
  sound = makes.sound_after;
  fits = makes.fits_after;
  seen_is = makes.seen_is;
}

-- the batch of an owner that has walked all that it took
pub stands_batch : (p : Part) (ks : List ℕ) → Stands p → p.stage ≡ Owns None [] ks → ks ≡ batch p.seen
stands_batch p ks stands is =
    let m = stands.machine in let keeps : HasStage m p.seat (Owns None [] ks) = subst (HasStage m p.seat) is stands.fits.keeps in
    sym keeps.3 ∙ (batch_is m stands.sound keeps.1 ∙ ap batch (sym stands.seen_is))

pub stands_legal : (p : Part) → Stands p → IsLegal p.layout p.seen
stands_legal p stands = subst (λ (z : Layout × List Event). IsLegal z.0 z.1) (λ i. (sym stands.fits.layout_is i, sym stands.seen_is i)) stands.sound.legal

-- the stage of an owner
pub pair_owner : (st : Stage) (ks : List ℕ) → st ≡ Owns None [] ks → IsOwner st
pair_owner st ks is = subst IsOwner (sym is) tt

pub none_of : (st : Stage) (ks : List ℕ) → st ≡ Owns None [] ks → ks ≡ [] → HasNone st
none_of st ks is none = subst HasNone (sym is) none

pub to_begin : (st : Stage) (k : ℕ) (ks : List ℕ) → st ≡ Owns None [] (k ∷ ks) → IsToBegin k st
to_begin st k ks is = subst (IsToBegin k) (sym is) (refl, refl)

-- the step swaps the head for this word, and adds this event of the owner's, which executes and chains nothing
pub record Swaps (st : Step) (word : ℕ) (e : Event) : Type 0 where
  pub does : (m : Machine) → after m Owner st ≡ after_swap m word e
  pub stays : (found : ℕ) (ks : List ℕ) → stage_after (Owns None [] ks) st found ≡ swapped found [] ks
  pub mine : seat_of e ≡ owner_seat
  pub begins : begun (e ∷ []) ≡ []
  pub ends : ended (e ∷ []) ≡ []
  pub chains : count_by is_chain (e ∷ []) ≡ 0
  pub finds : count_by is_chain_busy (e ∷ []) ≡ 0

pub take_swaps : Swaps Take busy_word event.Take
take_swaps = record { does = λ m. refl; stays = λ f ks. refl; mine = refl; begins = refl; ends = refl; chains = refl; finds = refl }

pub close_swaps : Swaps Close closed_word event.Close
close_swaps = record { does = λ m. refl; stays = λ f ks. refl; mine = refl; begins = refl; ends = refl; chains = refl; finds = refl }

pub drain_swaps : Swaps Drain draining_word event.Drain
drain_swaps = record { does = λ m. refl; stays = λ f ks. refl; mine = refl; begins = refl; ends = refl; chains = refl; finds = refl }

pub resume_swaps : Swaps Resume busy_word event.Resume
resume_swaps = record { does = λ m. refl; stays = λ f ks. refl; mine = refl; begins = refl; ends = refl; chains = refl; finds = refl }

-- what was found is to be walked
to_walk : (next : Option ℕ) (ks : List ℕ) → Owns next [] ks ≡ walking next [] ks
to_walk None ks = ap (Owns None []) (sym (append-nil ks))
to_walk (Some k) ks = refl

module _ (st : Step) (word : ℕ) (e : Event) (swaps : Swaps st word e) where
  pub after_swaps : (m : Machine) (c : ℕ) (stage : Stage) → IsOwner stage → after m (seat_at c stage) st ≡ after_swap m word e
  after_swaps m c (Owns a b d) is = swaps.does m
  after_swaps m c (Sends r) is = elim is [ ]

  pub swap_tells : (found : ℕ) (p q : Part) → p.seat ≡ owner_seat → IsOwner p.stage → Makes st found p q → Tells (e ∷ []) p q
  swap_tells found p q mine is makes =
      tells st found p q makes _ _ (after_swaps makes.before p.seat p.stage is) refl refl (own_one p.seat e (swaps.mine ∙ sym mine))

  pub swap_stage : (found : ℕ) (p q : Part) (ks : List ℕ) → p.stage ≡ Owns None [] ks → Makes st found p q → q.stage ≡ walking (item_of (head_at found)) [] ks
  swap_stage found p q ks is makes =
      makes.stage_is ∙ (ap (λ (x : Stage). stage_after x st found) is ∙ (swaps.stays found ks ∙ to_walk (item_of (head_at found)) ks))

-- a walk that has not come to the end
pub walking_on : (next : Option ℕ) (number : ℕ) (walked ks : List ℕ) → next ≡ Some number → walking next walked ks ≡ Owns (Some number) walked ks
walking_on next number walked ks is = ap (λ (k : Option ℕ). walking k walked ks) is

next_walk : (k word : ℕ) (walked ks : List ℕ) → walked_on k walked ks word ≡ walking (number_at word) (k ∷ walked) ks
next_walk k word walked ks = go (word == 0)
  where
    go : (b : Bool)
        → (if b then Owns None [] (ks ++ k ∷ walked) else Owns (if b then None else Some (word - 1)) (k ∷ walked) ks) ≡
        walking (if b then None else Some (word - 1)) (k ∷ walked) ks
    go true = refl
    go false = refl

pub walk_stage : (k word : ℕ) (p q : Part) (walked ks : List ℕ) → p.stage ≡ Owns (Some k) walked ks → Makes Walk word p q
    → q.stage ≡ walking (number_at word) (k ∷ walked) ks
walk_stage k word p q walked ks is makes = makes.stage_is ∙ (ap (λ (st : Stage). stage_after st Walk word) is ∙ next_walk k word walked ks)

after_walks : (m : Machine) (c k : ℕ) (walked ks : List ℕ) (st : Stage) → st ≡ Owns (Some k) walked ks → HasStage m c st
    → after m (seat_at c st) Walk ≡ walked_past m k (link m k)
after_walks m c k walked ks st is keeps =
    let kept : HasStage m c (Owns (Some k) walked ks) = subst (HasStage m c) is keeps in
    ap (λ (x : Stage). after m (seat_at c x) Walk) is ∙ ap (after_walk m) kept.1

past_layout : (m : Machine) (k : ℕ) (b : Bool)
    → (if b then record m { cursor = None; walked = []; batch = m.batch ++ k ∷ m.walked } else record m {
      cursor = number_at
          (link m k);
      walked = k ∷ m.walked;
    }).layout ≡ m.layout
past_layout m k true = refl
past_layout m k false = refl

past_history : (m : Machine) (k : ℕ) (b : Bool)
    → (if b then record m { cursor = None; walked = []; batch = m.batch ++ k ∷ m.walked } else record m {
      cursor = number_at
          (link m k);
      walked = k ∷ m.walked;
    }).history ≡ m.history
past_history m k true = refl
past_history m k false = refl

pub walk_tells : (k word : ℕ) (p q : Part) (walked ks : List ℕ) → p.stage ≡ Owns (Some k) walked ks → Makes Walk word p q → Tells [] p q
walk_tells k word p q walked ks is makes = let m = makes.before in
    tells Walk word p q makes _ [] (after_walks m p.seat k walked ks p.stage is makes.fits.keeps) (past_layout m k (link m k == 0))
    (past_history m k (link m k == 0) ∙ sym (append-nil m.history)) refl

after_begins : (m : Machine) (c k : ℕ) (ks : List ℕ) (st : Stage) → st ≡ Owns None [] (k ∷ ks) → HasStage m c st
    → after m (seat_at c st) Begin ≡ happened (record (with_item m k 0) { batch = ks }) (event.Begin k)
after_begins m c k ks st is keeps =
    let kept : HasStage m c (Owns None [] (k ∷ ks)) = subst (HasStage m c) is keeps in
    ap (λ (x : Stage). after m (seat_at c x) Begin) is ∙ ap (after_begin m) kept.3

pub begin_tells : (k word : ℕ) (p q : Part) (ks : List ℕ) → p.seat ≡ owner_seat → p.stage ≡ Owns None [] (k ∷ ks) → Makes Begin word p q
    → Tells (event.Begin k ∷ []) p q
begin_tells k word p q ks mine is makes = tells Begin word p q makes _ _ (after_begins makes.before p.seat k ks p.stage is makes.fits.keeps) refl refl
    (own_one p.seat (event.Begin k) (sym mine))

pub begin_stage : (k word : ℕ) (p q : Part) (ks : List ℕ) → p.stage ≡ Owns None [] (k ∷ ks) → Makes Begin word p q → q.stage ≡ Owns None [] ks
begin_stage k word p q ks is makes = makes.stage_is ∙ ap (λ (st : Stage). stage_after st Begin word) is

-- the number that runs is known to the owner
running_known : (c : ℕ) (h v : List Event) → c ≡ owner_seat → own c h ≡ own c v → running h ≡ running v
running_known c h v mine same =
    let mine' : own owner_seat h ≡ own owner_seat v = subst (λ (d : ℕ). own d h ≡ own d v) mine same in
    λ i. slice_get (begun_same v h mine' i) (length (ended_same v h mine' i))

after_ends : (m : Machine) (c : ℕ) (st : Stage) → IsOwner st → after m (seat_at c st) End ≡ after_end m (running m.history)
after_ends m c (Owns a b d) is = refl
after_ends m c (Sends r) is = elim is [ ]

pub end_tells : (k word : ℕ) (p q : Part) → p.seat ≡ owner_seat → IsOwner p.stage → running p.seen ≡ Some k → Makes End word p q
    → Tells (event.End k ∷ []) p q
end_tells k word p q mine is runs makes = let m = makes.before in
    tells End word p q makes (after_end m (Some k)) _ (after_ends m p.seat p.stage is ∙
    ap (after_end m) (running_known p.seat m.history p.seen mine makes.fits.mine ∙ runs)) refl refl (own_one p.seat (event.End k) (sym mine))

pub end_stage : (word : ℕ) (p q : Part) (ks : List ℕ) → p.stage ≡ Owns None [] ks → Makes End word p q → q.stage ≡ Owns None [] ks
end_stage word p q ks is makes = makes.stage_is ∙ ap (λ (st : Stage). stage_after st End word) is

after_chain : (m : Machine) (c k : ℕ) (st : Stage) → IsOwner st
    → after m (seat_at c st) (Chain k) ≡
    (if item_word m k == 0 then happened (record (with_item m k 1) { batch = m.batch ++ k ∷ [] }) (event.Chain k) else happened m (event.ChainBusy k))
after_chain m c k (Owns a b d) is = refl
after_chain m c k (Sends r) is = elim is [ ]

pub chain_tells : (k word : ℕ) (p q : Part) → p.seat ≡ owner_seat → IsOwner p.stage → Makes (Chain k) word p q
    → MatchBool (word == 0) (Tells (event.Chain k ∷ []) p q) (Tells (event.ChainBusy k ∷ []) p q)
chain_tells k word p q mine is makes =
    subst (λ (w : ℕ). MatchBool (w == 0) (Tells (event.Chain k ∷ []) p q) (Tells (event.ChainBusy k ∷ []) p q)) (sym makes.word_is)
    (go (item_word makes.before k == 0) (after_chain makes.before p.seat k p.stage is))
  where
    go : (b : Bool)
        → after makes.before (seat_at p.seat p.stage) (Chain k) ≡
        (if b then happened (record (with_item makes.before k 1) { batch = makes.before.batch ++ k ∷ [] }) (event.Chain k) else happened makes.before
        (event.ChainBusy k))
        → MatchBool b (Tells (event.Chain k ∷ []) p q) (Tells (event.ChainBusy k ∷ []) p q)
    go true e = tells (Chain k) word p q makes _ _ e refl refl (own_one p.seat (event.Chain k) (sym mine))
    go false e = tells (Chain k) word p q makes _ _ e refl refl (own_one p.seat (event.ChainBusy k) (sym mine))

pub chain_stage : (k word : ℕ) (p q : Part) (ks : List ℕ) → p.stage ≡ Owns None [] ks → Makes (Chain k) word p q
    → q.stage ≡ Owns None [] (if word == 0 then ks ++ k ∷ [] else ks)
chain_stage k word p q ks is makes = makes.stage_is ∙ ap (λ (st : Stage). stage_after st (Chain k) word) is

pub owner_grows : (xs : List Event) (n : ℕ) (s t : Inside) → OwnsQueue s → TellsSo xs n s.chair.part t.chair.part
    → Grows owner_seat xs n s.chair.part.seen t.chair.part.seen
owner_grows xs n s t executes told = subst (λ (c : ℕ). Grows c xs n s.chair.part.seen t.chair.part.seen) executes.number_is told.grows

pub owner_sees : (xs : List Event) (n : ℕ) (s t : Inside) (now : Known) → owner_view s ≡ now → OwnsQueue s → t.layout ≡ s.layout
    → t.chair.queue ≡ s.chair.queue → TellsSo xs n s.chair.part t.chair.part
    → Sees xs n now (owner_view t)
owner_sees xs n s t now view executes layout queue told = subst (λ (v : Known). Sees xs n v (owner_view t)) view record {
  same = record { queue_is = queue; layout_is = layout; number_is = refl };
  grows = owner_grows xs n s t executes told;
  legal = subst (λ (l : Layout). IsLegal l t.chair.part.seen) (executes.layout_is ∙ sym layout) told.legal;
}

-- the batch that the owner keeps is that of what it has seen
pub owner_batch : (s : Inside) (now : Known) → owner_view s ≡ now → OwnsQueue s → kept_batch s.chair.part.stage ≡ batch now.seen
owner_batch s now view executes =
    stands_batch s.chair.part (kept_batch s.chair.part.stage) executes.stands executes.has_row.stage_is ∙ ap (λ (v : Known). batch v.seen) view

-- nothing runs, or one does
pub owner_idle : (p : Part) → Stands p → ¬ IsRunning p.seen → length (ended p.seen) ≡ length (begun p.seen)
owner_idle p stands idle = let order = in_order p.layout p.seen (stands_legal p stands) in
    omega (arith, idle, prefix_length (ended p.seen) (begun p.seen) order.ended_first)

pub owner_runs : (p : Part) → Stands p → IsRunning p.seen → length (begun p.seen) ≡ length (ended p.seen) + 1
owner_runs p stands runs = let order = in_order p.layout p.seen (stands_legal p stands) in let one = order.one_at_a_time in omega (arith, runs)
