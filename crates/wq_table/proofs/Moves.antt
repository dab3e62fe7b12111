-- What each kind of step does to the slots, and to the hand of the seat that makes it.
use Rattle.wq_table.proofs.Common.{◌≡◌, ◌≢◌, ℕ, ◌+◌, ◌%◌, ◌^◌, ◌<◌, ◌≤◌, ◌==◌, Bool, true, false, cond, if◌then◌else◌, List, [], ◌∷◌, ◌++◌, length}
use Rattle.wq_table.proofs.Common.{set, slice_get, Option, Some, None, sym, refl, ap, ◌∙◌, subst, arith, inl, inr, ⊎_elim, eqb-true, some, none}
use Rattle.wq_table.proofs.Common.{keeps, takes, Why, Event, number_count, accepted, begun, Holds, Keeper, Home, keeper, prefix_self, Machine, head}
use Rattle.wq_table.proofs.Common.{item_word, seen_word, nothing_seen, after_begin, after_end, IsSound, times-cons, times-append, Part, Carries}
use Rattle.wq_table.proofs.Common.{Slots, Shelves, taken_times, Step, Hand, MovesSlot}
use Rattle.std.proofs.lemmas.List.{length_push}
use Rattle.std.proofs.lemmas.Bool.{eq-eqb, ne_eqb}
use Rattle.atomic_table.specs.Table.{gives}
use Rattle.wq_words.specs.declared.event.Event.TheVariants.{Hold, Busy, Push, Back, Take, Close, Drain, Resume, Begin, End, Chain, ChainBusy, Rest}
use Rattle.wq_words.specs.History.{accepted_by, begun_by}
use Rattle.wq_words.specs.Keeper.{Sender, Listed, Owner, keeper_after}
use Rattle.wq_words.proofs.Growing.{filter_map_push_some}
use Rattle.wq_words.proofs.Listed.{accepted_push_none}
use Rattle.wq_core.specs.Machine.{with_head, with_item, with_private, with_done, done_word}
use Rattle.wq_core.specs.Machine.{happened}
use Rattle.wq_words.proofs.Times.{times}
use Rattle.wq_core.proofs.KeptSound.{home_from_clear, sender_from_holds}
use Rattle.wq_words.proofs.Keepers.{keeper_push, gives_hold, gives_push, gives_back, gives_begin, gives_chain}
use Rattle.wq_core.proofs.OwnerSteps.{first_of_batch}
use Rattle.wq_table.specs.Slots.{HomesFit, IsSenders}
use Rattle.wq_core.specs.declared.step.Step.TheVariants as step
use Rattle.wq_table.specs.SlotSteps.{Goes}
use Rattle.wq_table.proofs.Shelves.{fits_still, fits_taken, fits_emptied, fits_brought, fits_chained}
use Rattle.wq_table.proofs.Keeping.{waiting_once, queue_home, queue_sender, gone, came, begun_same, over_home}
use Rattle.wq_table.proofs.Keeping.{batch_once, over_sends, away_other, away_gone, held_none_out}
use Rattle.wq_words.proofs.Places.{waiting_queue}

module _ {V : Type 0} where
  -- an event that accepts and begins nothing, and brings nothing home
  quiet : (m : Machine) (e : Event) → accepted_by e ≡ None → begun_by e ≡ None → ((k : ℕ) (x : Keeper) → IsSenders (keeper_after k x e) → IsSenders x)
      → ((k : ℕ) (x : Keeper) → keeper_after k x e ≡ Home → x ≡ Home)
      → (brs : List (Option V)) (homes : Slots V) → Shelves m brs homes → Shelves (happened m e) brs homes
  quiet m e none_accepted none_begun sends home brs homes s =
      let h : List Event = m.history in
      subst (λ (z : List ℕ × List ℕ). HomesFit None (Carries m.layout.items) (keeper (h ++ e ∷ [])) (taken_times m.walked m.batch) (length z.0) z.1 brs homes)
      (λ i. (sym (begun_same h e none_begun) i, sym (accepted_push_none h e none_accepted) i))
      (fits_still None (Carries m.layout.items) (keeper h) (keeper (h ++ e ∷ [])) (taken_times m.walked m.batch) (taken_times m.walked m.batch)
      (length (begun h)) (length (begun h))
      (accepted h) brs homes s
      (λ k is. ⊎_elim (λ x. inl (sends k (keeper h k) (subst IsSenders (keeper_push h e k) x))) (λ n. inr n) is)
      (λ k at. home k (keeper h k) (sym (keeper_push h e k) ∙ at)) (λ k away. away) (omega arith))

  module _ (m : Machine) (p : Part) (brs : List (Option V)) (homes : Slots V) (sh : Shelves m brs homes) where
    -- no slot moves
    pub goes_still : (σ : Step) (n : Machine) (word : ℕ) (c : Hand V) → Shelves n brs homes → MovesSlot None σ p m word brs c brs c
        → Goes None σ m n p word brs homes c
    goes_still σ n word c s still = record {
      act = keeps;
      valid = tt;
      brs' = brs;
      more = prefix_self brs;
      shelves = s;
      moved = λ some_slot. still;
      hand_same = λ none_there. refl;
    }

    pub shelves_take : (words : List ℕ) (cursor : Option ℕ) → Shelves (happened (record m { words = words; cursor = cursor }) Take) brs homes
    shelves_take words cursor = quiet (record m { words = words; cursor = cursor }) Take refl refl (λ k x is. over_sends x is)
        (λ k x is. over_home x is) brs homes sh

    pub shelves_close : (words : List ℕ) (cursor : Option ℕ) → Shelves (happened (record m { words = words; cursor = cursor }) Close) brs homes
    shelves_close words cursor = quiet (record m { words = words; cursor = cursor }) Close refl refl (λ k x is. over_sends x is)
        (λ k x is. over_home x is) brs homes sh

    pub shelves_drain : (words : List ℕ) (cursor : Option ℕ) → Shelves (happened (record m { words = words; cursor = cursor }) Drain) brs homes
    shelves_drain words cursor = quiet (record m { words = words; cursor = cursor }) Drain refl refl (λ k x is. over_sends x is)
        (λ k x is. over_home x is) brs homes sh

    pub shelves_resume : (words : List ℕ) (cursor : Option ℕ) → Shelves (happened (record m { words = words; cursor = cursor }) Resume) brs homes
    shelves_resume words cursor = quiet (record m { words = words; cursor = cursor }) Resume refl refl (λ k x is. is) (λ k x is. is) brs homes sh

    pub shelves_rest : (b : Bool) (words : List ℕ) → Shelves (if b then happened (record m { words = words }) Rest else m) brs homes
    shelves_rest true words = quiet (record m { words = words }) Rest refl refl (λ k x is. is) (λ k x is. is) brs homes sh
    shelves_rest false words = sh

    pub shelves_end : (r : Option ℕ) → Shelves (after_end m r) brs homes
    shelves_end None = sh
    shelves_end (Some k) = quiet (with_done m ((done_word m + 1) % 2 ^ 64)) (End k) refl refl (λ j x is. is) (λ j x is. is) brs homes sh

  module _ (m : Machine) (sound : IsSound m) (p : Part) (brs : List (Option V)) (homes : Slots V) (sh : Shelves m brs homes) where
    -- a number that a sender holds stands at no place that waits
    held_apart : (s k : ℕ) → Holds m.history s k → (place j : ℕ) → length (begun m.history) ≤ place → slice_get (accepted m.history) place ≡ Some j → j ≢ k
    held_apart s k holds place j late stands same =
        let queue = waiting_queue m.layout m.history sound.legal j place late stands in
        queue_sender (keeper m.history j) s queue (ap (keeper m.history) same ∙ sender_from_holds m sound s k holds)

    home_apart : (k : ℕ) → keeper m.history k ≡ Home → (place j : ℕ) → length (begun m.history) ≤ place
        → slice_get (accepted m.history) place ≡ Some j → j ≢ k
    home_apart k home place j late stands same =
        let queue = waiting_queue m.layout m.history sound.legal j place late stands in
        queue_home (keeper m.history j) queue (ap (keeper m.history) same ∙ home)

    pub goes_hold : (s k : ℕ) (c : Hand V) → k < number_count m.layout → k < length homes
        → Goes None (step.Hold k) m (if item_word m k == 0 then happened (with_item m k 1) (Hold s k) else happened m (Busy s k)) p
        (item_word m k) brs homes c
    goes_hold s k c number low = go (item_word m k == 0) refl
      where
        go : (b : Bool) → (item_word m k == 0) ≡ b
            → Goes None (step.Hold k) m (if b then happened (with_item m k 1) (Hold s k) else happened m (Busy s k)) p (item_word m k) brs homes c
        go true e =
            let home : keeper m.history k ≡ Home = home_from_clear m sound k number (eqb-true (item_word m k) 0 e) in record {
              act = takes k None;
              valid = sh.free k low home;
              brs' = brs;
              more = prefix_self brs;
              shelves =
                  subst (λ (z : List ℕ × List ℕ). HomesFit None (Carries m.layout.items) (keeper (m.history ++ Hold s k ∷ []))
                  (taken_times m.walked m.batch) (length z.0) z.1 brs
                  (set homes k none)) (λ i. (sym (begun_same m.history (Hold s k) refl) i, sym (accepted_push_none m.history (Hold s k) refl) i))
                  (fits_taken None (Carries m.layout.items) (keeper m.history) (keeper (m.history ++ Hold s k ∷ [])) (taken_times m.walked m.batch)
                  (taken_times m.walked m.batch)
                  (length (begun m.history)) (length (begun m.history)) (accepted m.history) brs homes sh k
                  (λ j other is. away_other m.history (Hold s k) k (Sender s) _ _ (gives_hold s k) j other refl is)
                  (gone m.history (Hold s k) k (Sender s) (gives_hold s k) (λ e. cc))
                  (λ place j late stands away. (home_apart k home place j late stands, away)) (omega arith));
              moved = λ some_slot. (refl, sym (ap (λ (q : Bool). if q then (k, None) ∷ c else c) e));
              hand_same = λ none_there. absurd (omega (arith, low, none_there));
            }
        go false e = record {
          act = keeps;
          valid = tt;
          brs' = brs;
          more = prefix_self brs;
          shelves = quiet m (Busy s k) refl refl (λ j x is. is) (λ j x is. is) brs homes sh;
          moved = λ some_slot. (refl, sym (ap (λ (q : Bool). if q then (k, None) ∷ c else c) e));
          hand_same = λ none_there. refl;
        }

    -- the slot in front of the hand is that of k, with y in it
    pub goes_push : (k : ℕ) (y : Option V) (c : Hand V) → Carries m.layout.items k y → Holds m.history p.seat k → k < length homes
        → Goes None (step.Push k) m (if head m == seen_word m p.seat then happened (with_private (with_head m (k + 1)) p.seat nothing_seen)
        (Push p.seat k) else with_private m p.seat nothing_seen)
        p (head m) brs homes ((k, y) ∷ c)
    goes_push k y c fit holds low = go (head m == seen_word m p.seat) refl
      where
        go : (b : Bool) → (head m == seen_word m p.seat) ≡ b
            → Goes None (step.Push k) m (if b then happened (with_private (with_head m (k + 1)) p.seat nothing_seen)
            (Push p.seat k) else with_private m p.seat nothing_seen)
            p (head m) brs homes ((k, y) ∷ c)
        go true e = record {
          act = gives;
          valid = tt;
          brs' = brs ++ y ∷ [];
          more = (y ∷ [], refl);
          shelves =
              subst (λ (z : List ℕ × List ℕ). HomesFit None (Carries m.layout.items) (keeper (m.history ++ Push p.seat k ∷ []))
              (taken_times m.walked m.batch) (length z.0) z.1 (brs ++ y ∷ [])
              (set homes k (some y)))
              (λ i. (sym (begun_same m.history (Push p.seat k) refl) i, sym (filter_map_push_some accepted_by m.history (Push p.seat k) k refl) i))
              (fits_brought None (Carries m.layout.items) (keeper m.history) (keeper (m.history ++ Push p.seat k ∷ []))
              (taken_times m.walked m.batch) (taken_times m.walked m.batch)
              (length (begun m.history)) (length (begun m.history)) (accepted m.history) brs homes sh k y
              (away_gone m.history (Push p.seat k) k Listed (taken_times m.walked m.batch) (taken_times m.walked m.batch) (gives_push p.seat k) (λ x. x)
              (held_none_out m sound p.seat k (sender_from_holds m sound p.seat k holds)) (λ j other. refl))
              (λ some_slot. fit)
              (gone m.history (Push p.seat k) k Listed (gives_push p.seat k) (λ e. cc))
              (λ place j late stands away. (held_apart p.seat k holds place j late stands, away)) (omega arith));
          moved = λ some_slot. rw e (refl, refl);
          hand_same = λ none_there. absurd (omega (arith, low, none_there));
        }
        go false e = record {
          act = keeps;
          valid = tt;
          brs' = brs;
          more = prefix_self brs;
          shelves = sh;
          moved = λ some_slot. rw e
              (refl, refl);
          hand_same = λ none_there. refl;
        }

    -- an emptied slot is given back
    pub goes_back : (s k word : ℕ) (why : Why) (words : List ℕ) (seats : List _) (c : Hand V) → Holds m.history s k → k < length homes
        → Goes None (step.Back k why) m (happened (record m { words = words; seats = seats }) (Back s k why)) p word brs homes ((k, None) ∷ c)
    goes_back s k word why words seats c holds low = record {
      act = gives;
      valid = tt;
      brs' = brs;
      more = prefix_self brs;
      shelves =
          subst (λ (z : List ℕ × List ℕ). HomesFit None (Carries m.layout.items) (keeper (m.history ++ Back s k why ∷ []))
          (taken_times m.walked m.batch) (length z.0) z.1 brs
          (set homes k (some None))) (λ i. (sym (begun_same m.history (Back s k why) refl) i, sym (accepted_push_none m.history (Back s k why) refl) i))
          (fits_emptied None (Carries m.layout.items) (keeper m.history) (keeper (m.history ++ Back s k why ∷ [])) (taken_times m.walked m.batch)
          (taken_times m.walked m.batch)
          (length (begun m.history)) (length (begun m.history)) (accepted m.history) brs homes sh k
          (away_gone m.history (Back s k why) k Home (taken_times m.walked m.batch) (taken_times m.walked m.batch) (gives_back s k why) (λ x. x)
          (held_none_out m sound s k (sender_from_holds m sound s k holds)) (λ j other. refl))
          (came m.history (Back s k why) k Home (gives_back s k why))
          (λ place j late stands away. (held_apart s k holds place j late stands, away)) (omega arith));
      moved = λ some_slot. (refl, refl);
      hand_same = λ none_there. absurd (omega (arith, low, none_there));
    }

    -- an emptied slot is given back as its number begins
    pub goes_begin : (k word : ℕ) (ks : List ℕ) (c : Hand V) → m.cursor ≡ None → m.batch ≡ k ∷ ks → k < length homes
        → Goes None step.Begin m (after_begin m m.batch) p word brs homes ((k, None) ∷ c)
    goes_begin k word ks c still first low =
        let at : slice_get (accepted m.history) (length (begun m.history)) ≡ Some k = (first_of_batch m sound k ks still first).1 in
        let b : ℕ = length (begun m.history) in
        let count : length (begun (m.history ++ Begin k ∷ [])) ≡ b + 1 =
        ap length (filter_map_push_some begun_by m.history (Begin k) k refl) ∙ length_push (begun m.history) k in
        let was : HomesFit None (Carries m.layout.items) (keeper m.history) (taken_times m.walked (k ∷ ks)) b (accepted m.history) brs homes =
        subst (λ (z : List ℕ). HomesFit None (Carries m.layout.items) (keeper m.history) (taken_times m.walked z) b (accepted m.history) brs homes) first sh in
        subst (λ (z : List ℕ). Goes None step.Begin m (after_begin m z) p word brs homes ((k, None) ∷ c)) (sym first) record {
          act = gives;
          valid = tt;
          brs' = brs;
          more = prefix_self brs;
          shelves =
              subst (λ (z : ℕ × List ℕ). HomesFit None (Carries m.layout.items) (keeper (m.history ++ Begin k ∷ []))
              (taken_times m.walked ks) z.0 z.1 brs (set homes k (some None)))
              (λ i. (sym count i, sym (accepted_push_none m.history (Begin k) refl) i))
              (fits_emptied None (Carries m.layout.items) (keeper m.history) (keeper (m.history ++ Begin k ∷ [])) (taken_times m.walked (k ∷ ks))
              (taken_times m.walked ks)
              b (b + 1) (accepted m.history) brs homes was k
              (away_gone m.history (Begin k) k Home (taken_times m.walked (k ∷ ks)) (taken_times m.walked ks) (gives_begin k) (λ x. x)
              (omega (arith, batch_once m sound k ks first, ap (times k) (sound.chains.none_walked still)))
              (λ j other. omega (arith, times-cons j k ks, ap {B = ℕ} (λ (q : Bool). cond q 1 0) (ne_eqb k j (λ same. other (sym same))))))
              (came m.history (Begin k) k Home (gives_begin k))
              (λ place j late stands away.
              let other : j ≢ k = λ same. waiting_once m.layout m.history sound.legal k b place (omega arith) (omega (arith, late)) at (stands ∙
              ap Some same) in
              (other, omega (arith, away, times-cons j k ks, ap {B = ℕ} (λ (q : Bool). cond q 1 0) (ne_eqb k j (λ same. other (sym same))))))
              (omega arith));
          moved = λ some_slot. (refl, refl);
          hand_same = λ none_there. absurd (omega (arith, low, none_there));
        }

    -- the slot of a chained item is taken, with nothing in it, and it is accepted with what is to be put there
    pub goes_chain : (k : ℕ) (x : Option V) (c : Hand V) → Carries m.layout.items k x → k < number_count m.layout → k < length homes
        → Goes x (step.Chain k) m (if item_word m k == 0 then happened (record (with_item m k 1) { batch = m.batch ++ k ∷ [] })
        (Chain k) else happened m (ChainBusy k))
        p (item_word m k) brs homes c
    goes_chain k x c fit number low = go (item_word m k == 0) refl
      where
        go : (b : Bool) → (item_word m k == 0) ≡ b
            → Goes x (step.Chain k) m (if b then happened (record (with_item m k 1) { batch = m.batch ++ k ∷ [] }) (Chain k) else happened m (ChainBusy k))
            p (item_word m k) brs homes c
        go true e =
            let home : keeper m.history k ≡ Home = home_from_clear m sound k number (eqb-true (item_word m k) 0 e) in
            let count : (j : ℕ) → times j (m.batch ++ k ∷ []) ≡ times j m.batch + cond (k == j) 1 0 =
            λ j. omega (arith, times-append j m.batch (k ∷ []), times-cons j k []) in record {
              act = takes k None;
              valid = sh.free k low home;
              brs' = brs ++ x ∷ [];
              more = (x ∷ [], refl);
              shelves =
                  subst (λ (z : List ℕ × List ℕ). HomesFit None (Carries m.layout.items) (keeper (m.history ++ Chain k ∷ [])) (taken_times m.walked
                  (m.batch ++ k ∷ [])) (length z.0) z.1
                  (brs ++ x ∷ []) (set homes k none))
                  (λ i. (sym (begun_same m.history (Chain k) refl) i, sym (filter_map_push_some accepted_by m.history (Chain k) k refl) i))
                  (fits_chained None (Carries m.layout.items) (keeper m.history) (keeper (m.history ++ Chain k ∷ [])) (taken_times m.walked m.batch)
                  (taken_times m.walked (m.batch ++ k ∷ [])) (length (begun m.history)) (length (begun m.history)) (accepted m.history) brs homes sh k x
                  (λ j other is. away_other m.history (Chain k) k Owner _ _ (gives_chain k) j other
                  (omega (arith, count j, ap {B = ℕ} (λ (q : Bool). cond q 1 0) (ne_eqb k j (λ same. other (sym same))))) is)
                  (λ some_slot. fit)
                  (gone m.history (Chain k) k Owner (gives_chain k) (λ e. cc))
                  (λ place j late stands away. (home_apart k home place j late stands, omega (arith, away, count j)))
                  (λ zero. absurd (omega (arith, zero, count k, ap {B = ℕ} (λ (q : Bool). cond q 1 0) (eq-eqb k k refl)))) (omega arith));
              moved = λ some_slot. rw e (refl, refl);
              hand_same = λ none_there. absurd (omega (arith, low, none_there));
            }
        go false e = record {
          act = keeps;
          valid = tt;
          brs' = brs;
          more = prefix_self brs;
          shelves = quiet m (ChainBusy k) refl refl (λ j x is. is) (λ j x is. is) brs homes sh;
          moved = λ some_slot. rw e (refl, refl);
          hand_same = λ none_there. refl;
        }
