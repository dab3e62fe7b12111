-- What lies in the slots of the owner's hand, step after step.
use Rattle.wq_calls.proofs.Common.{◌≡◌, ℕ, ◌+◌, ◌<◌, ◌≤◌, Bool, true, false, cond, List, [], ◌∷◌, ◌++◌, map, length, slice_get, Option, Some, None}
use Rattle.wq_calls.proofs.Common.{sym, refl, ap, ◌∙◌, subst, arith, inl, inr, ⊎_elim, append-nil, IsPrefix, TableId, rest, Event, Layout, accepted}
use Rattle.wq_calls.proofs.Common.{begun, owner_seat, own, Grows, Carries, slice_get-prefix, begun_same, times, times-cons, Step}
use Rattle.wq_calls.proofs.Common.{Walk, Machine, Part, Stage, Owns, ValuePart, HasStage, Hand, ValueStanding, part_in, ValueSteps, HasValue, Learns}
use Rattle.wq_calls.proofs.Common.{LearnsOrStays, learns_step, learns_more, OwnerSeat, batch, Sees, Rests, owning, owner_view, OwnsQueue, Stands}
use Rattle.wq_calls.proofs.Common.{OnlySees, kept_batch, slot_number, HasHand, OwnsSlots, OwnsSeat}
use Rattle.std.proofs.lemmas.Bool.{cases_lt, eq-eqb}
use Rattle.std.proofs.lemmas.List.{length_push}
use Rattle.wq_words.specs.declared.event.Event.TheVariants as event
use Rattle.wq_core.specs.declared.step.Step.TheVariants.{Begin}
use Rattle.wq_core.proofs.OwnerSteps.{first_of_batch}
use Rattle.wq_table.specs.Plays.{tail_of}
use Rattle.wq_table.specs.SlotSteps.{IsBrought, Walks, MovesSlot}
use Rattle.wq_table.proofs.Changes.{changes}
use Rattle.wq_table.proofs.Keeping.{waiting_once, batch_once}
use Rattle.wq_calls.specs.Hands.{EachBrought, OwnsEmptied}
use Rattle.wq_calls.proofs.Owned.{begun_on}
use Rattle.wq_calls.proofs.Tells.{TellsSo, Tells}
use Rattle.wq_calls.proofs.OwnerTells.{walk_tells, begin_tells, owner_batch}
use Rattle.wq_words.proofs.Appended.{prefix_accepted}

-- what came new is seen behind what was seen
pub accepted_on : (c : ℕ) (xs : List Event) (n : ℕ) (v w : List Event) → Grows c xs n v w → IsPrefix (accepted v) (accepted w)
accepted_on c xs n v w g = prefix_accepted v w (g.new, sym g.is)

pub begun_still : (xs : List Event) (n : ℕ) (v w : List Event) → Grows owner_seat xs n v w → begun xs ≡ [] → begun w ≡ begun v
begun_still xs n v w g none = begun_on xs n v w g ∙ (ap (λ (l : List ℕ). begun v ++ l) none ∙ append-nil (begun v))

-- the first of the batch is the first that was accepted and has not begun, and stands in the batch once
module _ (k : ℕ) (ks : List ℕ) (p : Part) (stands : Stands p) (stage : p.stage ≡ Owns None [] (k ∷ ks)) where
  keeps : HasStage stands.machine p.seat (Owns None [] (k ∷ ks))
  keeps = subst (HasStage stands.machine p.seat) stage stands.fits.keeps

  pub front_place : slice_get (accepted p.seen) (length (begun p.seen)) ≡ Some k
  front_place = subst (λ (h : List Event). slice_get (accepted h) (length (begun h)) ≡ Some k) (sym stands.seen_is)
      (first_of_batch stands.machine stands.sound k ks keeps.1 keeps.3).1

  pub front_once : times k ks ≡ 0
  front_once = batch_once stands.machine stands.sound k ks keeps.3

  -- what it brought is what was brought at its place
  pub front_brought : {V : Type 0} (brs : List (Option V)) (y : Option V)
      → IsBrought p.layout.items (length (begun p.seen)) (accepted p.seen) brs k y → slice_get brs (length (begun p.seen)) ≡ Some y
  front_brought brs y it =
      let m = stands.machine in let b = length (begun p.seen) in
      let now : begun m.history ≡ begun p.seen = ap begun (sym stands.seen_is) in
      let all : accepted m.history ≡ accepted p.seen = ap accepted (sym stands.seen_is) in
      elim (cases_lt b it.place) [
        | inl lt ↦ absurd (waiting_once m.layout m.history stands.sound.legal k b it.place (omega (arith, ap length now)) lt
            (subst (λ (acs : List ℕ). slice_get acs b ≡ Some k) (sym all) front_place)
            (subst (λ (acs : List ℕ). slice_get acs it.place ≡ Some k) (sym all) it.stands))
        | inr ge ↦ let e : it.place ≡ b = omega (arith, it.later) in subst (λ (i : ℕ). slice_get brs i ≡ Some y) e it.has
      ]

module _ {V : Type 0} where
  -- more was accepted and brought, and no more has begun
  brought_on : (i j b b' : ℕ) (acs acs' : List ℕ) (brs brs' : List (Option V)) (k : ℕ) (y : Option V) → j ≡ i → b' ≡ b → IsPrefix acs acs'
      → IsPrefix brs brs' → IsBrought i b acs brs k y → IsBrought j b' acs' brs' k y
  brought_on i j b b' acs acs' brs brs' k y e same front more it = record {
    place = it.place;
    later = omega (arith, it.later, same);
    stands = slice_get-prefix acs acs' it.place k front it.stands;
    has = slice_get-prefix brs brs' it.place y more it.has;
    kind = subst (λ (n : ℕ). Carries n k y) (sym e) it.kind;
  }

  each_on : (i j b b' : ℕ) (acs acs' : List ℕ) (brs brs' : List (Option V)) (hand : Hand V) → j ≡ i → b' ≡ b → IsPrefix acs acs' → IsPrefix brs brs'
      → EachBrought i b acs brs hand → EachBrought j b' acs' brs' hand
  each_on i j b b' acs acs' brs brs' [] e same front more all = tt
  each_on i j b b' acs acs' brs brs' (x ∷ xs) e same front more all = (
    brought_on i j b b' acs acs' brs brs' x.0 x.1 e same front more all.0,
    each_on i j b b' acs acs' brs brs' xs e same front more all.1,
  )

  pub each_append : (i b : ℕ) (acs : List ℕ) (brs : List (Option V)) (c d : Hand V) → EachBrought i b acs brs c → EachBrought i b acs brs d
      → EachBrought i b acs brs (c ++ d)
  each_append i b acs brs [] d all more = more
  each_append i b acs brs (x ∷ xs) d all more = (all.0, each_append i b acs brs xs d all.1 more)

  -- a number in a hand that is not k stands behind the place of k
  later_than : (i b k : ℕ) (acs : List ℕ) (brs : List (Option V)) (hand : Hand V) → slice_get acs b ≡ Some k → times k (map slot_number hand) ≡ 0
      → EachBrought i b acs brs hand → EachBrought i (b + 1) acs brs hand
  later_than i b k acs brs [] at none_there all = tt
  later_than i b k acs brs (x ∷ xs) at none_there all =
      let it = all.0 in
      let count = times-cons k x.0 (map slot_number xs) in
      let later : b + 1 ≤ it.place = elim (cases_lt b it.place) [
        | inl lt ↦ omega arith
        | inr ge ↦
            let e : it.place ≡ b = omega (arith, it.later) in
            let same : x.0 ≡ k = cc (it.stands, e, at) in
            absurd (omega (arith, none_there, count, ap {B = ℕ} (λ (q : Bool). cond q 1 0) (eq-eqb x.0 k same)))
      ] in (
        record { place = it.place; later = later; stands = it.stands; has = it.has; kind = it.kind },
        later_than i b k acs brs xs at (omega (arith, none_there, count)) all.1,
      )

  -- the same hand, of a part that saw more
  pub hand_on : (t u : ValuePart V) (c d : Hand V) (ns : List ℕ) → u.part.layout ≡ t.part.layout → length (begun u.part.seen) ≡ length (begun t.part.seen)
      → IsPrefix (accepted t.part.seen) (accepted u.part.seen) → IsPrefix t.brought u.brought → d ≡ c → HasHand t c ns → HasHand u d ns
  hand_on t u c d ns layout same front more hand has = subst (λ (h : Hand V). HasHand u h ns) (sym hand) (record {
    numbers_are = has.numbers_are;
    each = each_on t.part.layout.items u.part.layout.items (length (begun t.part.seen)) (length (begun u.part.seen)) (accepted t.part.seen)
        (accepted u.part.seen) t.brought u.brought c (ap (λ (l : Layout). l.items) layout) same front more has.each;
  })

  -- a step that moves no slot
  pub same_hand : (at : ℕ) (said : Option V) (step : Step) (word : ℕ) (old new : ValueStanding V) (s : ValueSteps at said step word old new)
      → (MovesSlot said step (part_in at old) s.steps.moves.makes.before word s.brought old.hand s.brought' new.hand → new.hand ≡ old.hand)
      → new.hand ≡ old.hand
  same_hand at said step word old new s keeps = elim (cases_lt 0 old.queue.slots) [
    | inl lt ↦ keeps (s.moves lt)
    | inr ge ↦ s.hand_same (omega (arith, ge))
  ]

  -- a load by an owner that has walked all moves none
  pub load_hand : (word : ℕ) (old new : ValueStanding V) (walked ks : List ℕ) → old.first.part.stage ≡ Owns None walked ks
      → ValueSteps 0 None Walk word old new → new.hand ≡ old.hand
  load_hand word old new walked ks stage s = same_hand 0 None Walk word old new s (λ moves.
      (subst (λ (st : Stage). Walks st s.steps.moves.makes.before s.brought old.hand s.brought' new.hand) stage moves).1)

  module _ (old new : ValueStanding V) (ns : List ℕ) (mine : old.first.part.seat ≡ owner_seat) where
    -- more was seen, in which nothing began
    slots_on : (xs : List Event) (n : ℕ) → new.queue ≡ old.queue → new.first.part.layout ≡ old.first.part.layout
        → Grows owner_seat xs n old.first.part.seen new.first.part.seen → begun xs ≡ [] → IsPrefix old.first.brought new.first.brought
        → new.hand ≡ old.hand → OwnsSlots old ns → OwnsSlots new ns
    slots_on xs n queue layout g none more hand slots =
        let v = old.first.part.seen in let w = new.first.part.seen in record {
          some = λ deep. hand_on old.first new.first old.hand new.hand ns layout (ap length (begun_still xs n v w g none))
              (accepted_on owner_seat xs n v w g) more hand (slots.some (subst (λ (q : TableId). 0 < q.slots) queue deep));
          none = λ bare. hand ∙ slots.none (subst (λ (q : TableId). q.slots ≡ 0) queue bare);
        }

    owned : (xs : List Event) (n : ℕ) → Grows old.first.part.seat xs n old.first.part.seen new.first.part.seen
        → Grows owner_seat xs n old.first.part.seen new.first.part.seen
    owned xs n grows = subst (λ (c : ℕ). Grows c xs n old.first.part.seen new.first.part.seen) mine grows

    -- by what the calls of the owner's seat say
    pub slots_see : LearnsOrStays 0 old new → OnlySees old.first.part new.first.part → new.hand ≡ old.hand → OwnsSlots old ns → OwnsSlots new ns
    slots_see learns follows hand slots = ⊎_elim
        (λ (e : new ≡ old). subst (λ (z : ValueStanding V). OwnsSlots z ns) (sym e) slots)
        (λ (l : Learns 0 old new).
        slots_on [] 0 l.follow.queue_is follows.layout_is (owned [] 0 follows.grows) refl (learns_more 0 old new l) hand slots) learns

    -- by what its part was told
    pub slots_more : (xs : List Event) (n : ℕ) → new.queue ≡ old.queue → IsPrefix old.first.brought new.first.brought
        → TellsSo xs n old.first.part new.first.part → begun xs ≡ [] → new.hand ≡ old.hand → OwnsSlots old ns → OwnsSlots new ns
    slots_more xs n queue more told none hand slots = slots_on xs n queue told.layout_is (owned xs n told.grows) none more hand slots

    -- and by its steps
    pub slots_told : (xs : List Event) (n : ℕ) → Learns 0 old new → TellsSo xs n old.first.part new.first.part → begun xs ≡ [] → new.hand ≡ old.hand
        → OwnsSlots old ns → OwnsSlots new ns
    slots_told xs n l told none hand slots = slots_more xs n l.follow.queue_is (learns_more 0 old new l) told none hand slots

    pub emptied_see : (k : ℕ) → LearnsOrStays 0 old new → OnlySees old.first.part new.first.part → new.hand ≡ old.hand → OwnsEmptied old k ns
        → OwnsEmptied new k ns
    emptied_see k learns follows hand slots = ⊎_elim
        (λ (e : new ≡ old). subst (λ (z : ValueStanding V). OwnsEmptied z k ns) (sym e) slots)
        (λ (l : Learns 0 old new).
        let v = old.first.part.seen in let w = new.first.part.seen in let g = owned [] 0 follows.grows in let queue = l.follow.queue_is in record {
          some = λ deep. let is = slots.some (subst (λ (q : TableId). 0 < q.slots) queue deep) in (
            subst (HasValue k None) (sym hand) is.0,
            hand_on old.first new.first (rest old.hand) (rest new.hand) ns follows.layout_is (ap length (begun_still [] 0 v w g refl))
                (accepted_on owner_seat [] 0 v w g) (learns_more 0 old new l) (ap rest hand) is.1,
          );
          none = λ bare. hand ∙ slots.none (subst (λ (q : TableId). q.slots ≡ 0) queue bare);
        }) learns

  -- the same of the batch
  pub emptied_batch : (k : ℕ) (ks : List ℕ) (old new : ValueStanding V) → old.first.part.seat ≡ owner_seat → LearnsOrStays 0 old new
      → OnlySees old.first.part new.first.part → new.hand ≡ old.hand → new.first.part.stage ≡ old.first.part.stage
      → new.first.part.stage ≡ Owns None [] (k ∷ ks) → OwnsEmptied old k (tail_of (kept_batch old.first.part.stage)) → OwnsEmptied new k ks
  emptied_batch k ks old new mine learns follows hand stays stage slots = emptied_see old new ks mine k learns follows hand
      (subst (OwnsEmptied old k) (ap (λ (st : Stage). tail_of (kept_batch st)) (sym stays ∙ stage)) slots)

  pub bare_slots : (old new : ValueStanding V) (ns ms : List ℕ) → new.queue ≡ old.queue → old.queue.slots ≡ 0 → new.hand ≡ old.hand → OwnsSlots old ns
      → OwnsSlots new ms
  bare_slots old new ns ms queue bare hand slots = record {
    some = λ deep. absurd (omega (arith, deep, ap (λ (q : TableId). q.slots) queue, bare));
    none = λ none. hand ∙ slots.none bare;
  }

  -- and by what a call of the owner's says where its batch stays
  module _ (s t : OwnerSeat V) (owns : OwnsSeat s) (queue : OwnsQueue (owning t)) (learns : Learns 0 s.chair t.chair) (hand : t.chair.hand ≡ s.chair.hand)
      (same : batch t.chair.first.part.seen ≡ batch s.chair.first.part.seen) where
    pub seat_slots : (xs : List Event) (n : ℕ) → Sees xs n (owner_view (owning s)) (owner_view (owning t)) → begun xs ≡ []
        → OwnsSlots t.chair (kept_batch t.chair.first.part.stage)
    seat_slots xs n sees none =
        let o = owns.queue in let ks = kept_batch s.chair.first.part.stage in
        let kept : kept_batch t.chair.first.part.stage ≡ ks =
        owner_batch (owning t) (owner_view (owning t)) refl queue ∙ (same ∙ sym (owner_batch (owning s) (owner_view (owning s)) refl o)) in
        subst (OwnsSlots t.chair) (sym kept)
        (slots_on s.chair t.chair ks o.number_is xs n learns.follow.queue_is (queue.layout_is ∙ (sees.same.layout_is ∙ sym o.layout_is)) sees.grows none
        (learns_more 0 s.chair t.chair learns) hand owns.slots)

    pub rest_slots : (b : Bool) → Rests b (owner_view (owning s)) (owner_view (owning t)) → OwnsSlots t.chair (kept_batch t.chair.first.part.stage)
    rest_slots true sees = seat_slots (event.Rest ∷ []) 0 sees refl
    rest_slots false sees = seat_slots [] 0 sees refl

  -- the slot of the number that the owner walks comes in front
  module _ (word k : ℕ) (walked batch ns : List ℕ) (old new : ValueStanding V) (mine : old.first.part.seat ≡ owner_seat)
      (stage : old.first.part.stage ≡ Owns (Some k) walked batch) (s : ValueSteps 0 None Walk word old new) where
    told : Tells [] old.first.part new.first.part
    told = walk_tells k word old.first.part new.first.part walked batch stage s.steps.moves.makes

    abbrev before : Machine
    before = s.steps.moves.makes.before

    came : MovesSlot None Walk (part_in 0 old) before word s.brought old.hand s.brought' new.hand
        → Walks (Owns (Some k) walked batch) before s.brought old.hand s.brought' new.hand
    came moves = subst (λ (st : Stage). Walks st before s.brought old.hand s.brought' new.hand) stage moves

    pub walk_slots : OwnsSlots old ns → OwnsSlots new (k ∷ ns)
    walk_slots slots =
        let p = old.first.part in let q = new.first.part in let makes = s.steps.moves.makes in let queue = s.steps.queue_is in
        let grows : Grows owner_seat [] 0 p.seen q.seen = subst (λ (c : ℕ). Grows c [] 0 p.seen q.seen) mine told.grows in
        let still : begun q.seen ≡ begun p.seen = begun_still [] 0 p.seen q.seen grows refl in
        let was : begun before.history ≡ begun p.seen =
        begun_same p.seen before.history (subst (λ (c : ℕ). own c before.history ≡ own c p.seen) mine makes.fits.mine) in
        let change = changes before p.seat p.stage Walk makes.fits.keeps in
        let front : IsPrefix before.history q.seen = (change.new, sym change.history_is ∙ sym makes.seen_is) in
        let more : IsPrefix s.brought new.first.brought = subst (λ (l : List (Option V)). IsPrefix s.brought l) (sym s.told.0) s.more in record {
          some = λ deep. let deep' : 0 < old.queue.slots = subst (λ (z : TableId). 0 < z.slots) queue deep in let has = slots.some deep' in
              let moves = came (s.moves deep') in let y = moves.1 in subst (λ (h : Hand V). HasHand new.first h (k ∷ ns)) (sym moves.2) (record {
                numbers_are = ap (λ (l : List ℕ). k ∷ l) has.numbers_are;
                each = (
                  brought_on before.layout.items q.layout.items (length (begun before.history)) (length (begun q.seen)) (accepted before.history)
                      (accepted q.seen) s.brought new.first.brought k y (ap (λ (l : Layout). l.items) (told.layout_is ∙ makes.fits.layout_is))
                      (ap length (still ∙ sym was)) (prefix_accepted before.history q.seen front) more moves.3,
                  (hand_on old.first new.first old.hand old.hand ns told.layout_is (ap length still) (accepted_on owner_seat [] 0 p.seen q.seen grows)
                      (learns_more 0 old new (learns_step 0 None Walk word old new s)) refl has).each,
                );
              });
          none = λ bare. let bare' : old.queue.slots ≡ 0 = subst (λ (z : TableId). z.slots ≡ 0) queue bare in s.hand_same bare' ∙ slots.none bare';
        }

  -- what begins leaves the slots of the others
  pub begin_slots : (word k : ℕ) (ks : List ℕ) (old new : ValueStanding V) → old.first.part.seat ≡ owner_seat
      → old.first.part.stage ≡ Owns None [] (k ∷ ks) → Stands old.first.part → ValueSteps 0 None Begin word old new → OwnsEmptied old k ks → OwnsSlots new ks
  begin_slots word k ks old new mine stage stands s slots =
      let p = old.first.part in let q = new.first.part in let queue = s.steps.queue_is in
      let told : Tells (event.Begin k ∷ []) p q = begin_tells k word p q ks mine stage s.steps.moves.makes in
      let grows : Grows owner_seat (event.Begin k ∷ []) 0 p.seen q.seen = subst (λ (c : ℕ). Grows c (event.Begin k ∷ []) 0 p.seen q.seen) mine told.grows in
      let more : begun q.seen ≡ begun p.seen ++ k ∷ [] = begun_on (event.Begin k ∷ []) 0 p.seen q.seen grows in record {
        some = λ deep. let deep' : 0 < old.queue.slots = subst (λ (z : TableId). 0 < z.slots) queue deep in let has = (slots.some deep').1 in
            let later = later_than p.layout.items (length (begun p.seen)) k (accepted p.seen) old.first.brought (rest old.hand)
            (front_place k ks p stands stage) (ap (times k) has.numbers_are ∙ front_once k ks p stands stage) has.each in
            subst (λ (h : Hand V). HasHand new.first h ks) (sym (s.moves deep').1) (record {
              numbers_are = has.numbers_are;
              each = each_on p.layout.items q.layout.items (length (begun p.seen) + 1) (length (begun q.seen)) (accepted p.seen) (accepted q.seen)
                  old.first.brought new.first.brought (rest old.hand) (ap (λ (l : Layout). l.items) told.layout_is)
                  (ap length more ∙ length_push (begun p.seen) k) (accepted_on owner_seat (event.Begin k ∷ []) 0 p.seen q.seen grows)
                  (learns_more 0 old new (learns_step 0 None Begin word old new s)) later;
            });
        none = λ bare. let bare' : old.queue.slots ≡ 0 = subst (λ (z : TableId). z.slots ≡ 0) queue bare in s.hand_same bare' ∙ slots.none bare';
      }
