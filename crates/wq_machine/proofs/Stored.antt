-- What is kept beside the machine follows each step.
use Rattle.wq_machine.proofs.Common.{Drain, Resume, IsShut, MaySwap, after_swap, TakesPushes, HasSeenCause, ◌≡◌, ◌≢◌, ℕ, ◌+◌, ◌<◌, ◌≤◌, ◌^◌, ◌%◌, List, [], ◌∷◌}
use Rattle.wq_machine.proofs.Common.{◌++◌, length, replicate, take, reverse, ◌-◌, get_or, set, None, Some, Option, refl, sym, ap, ◌∙◌, arith, length-set}
use Rattle.wq_machine.proofs.Common.{length-append, ◌↔◌, length-replicate, reverse-append, take_all, take_more, slice_get_past, Layout, Event, Hold, Busy, Push}
use Rattle.wq_machine.proofs.Common.{Back, Take, Close, Begin, End, Chain, ChainBusy, Rest, Why, number_count, busy_word, begun, ended, running, Holds, IsRunning}
use Rattle.wq_machine.proofs.Common.{listed, Keeper, Home, Sender, Listed, Owner, taken_over, keeper, keeper_after, growing, slice_get_last, in_order}
use Rattle.wq_machine.proofs.Common.{prefix_length, Private, link_place, word_count, resting_word, link_word, link_to, number_at, Machine, opening, nothing_seen}
use Rattle.wq_machine.proofs.Common.{head, link, item_word, done_word, private, seen_word, with_head, with_link, with_item, with_done, with_private, happened}
use Rattle.wq_machine.proofs.Common.{unlinked, StandsIn, IsChain, IsSound, holder, LinksFit, LooksFit, IsStored}
use Rattle.wq_words.proofs.Keepers.{gives_hold, gives_push, gives_back, gives_begin, gives_chain}
use Rattle.wq_words.proofs.Lists.{all_alike}
use Rattle.wq_core.proofs.Privates.{follow_give, follow_same, follow_quiet}
use Rattle.wq_core.proofs.Sound.{sound_opening}
use Rattle.wq_core.proofs.SenderSteps.{sound_hold, sound_busy, sound_look, sound_link, sound_push, sound_lost, sound_back}
use Rattle.wq_core.proofs.OwnerSteps.{sound_take, sound_close, sound_drain, sound_resume, sound_walk_end, sound_walk_on, sound_begin, sound_end, sound_chain}
use Rattle.wq_core.proofs.OwnerSteps.{sound_chain_busy, sound_rest, first_of_batch}
use Rattle.wq_core.proofs.KeptSound.{home_from_clear, sender_from_holds, holds_from_keeper}
use Rattle.wq_core.proofs.Heads.{head_open, open_from_link, link_open}
use Rattle.wq_core.proofs.Turning.{sound_turn}
use Rattle.wq_machine.proofs.Fitting.{fit_head, fit_item, fit_done, fit_link, fit_look}

-- the number that a word of a chain links to is one of the queue's
chain_fits : (n : ℕ) (ws : List ℕ) (w : ℕ) (ks : List ℕ) → IsChain n ws w ks → w ≤ n
chain_fits n ws w [] c = omega (arith, c)
chain_fits n ws w (k ∷ ks) c = omega (arith, c.0, c.1)

pub head_fits : (m : Machine) → IsSound m → ¬ IsShut m.history → link_word (head m) ≤ number_count m.layout
head_fits m o opens = rw (head_open m o opens) (chain_fits (number_count m.layout) m.words _ (listed m.history) o.chains.list_chain)

-- a head that was seen, of a queue that takes pushes, would be the link to a number or the end
pub head_seen : (m : Machine) → IsSound m → (w : ℕ) → head m ≡ w → TakesPushes w → link_word w ≤ number_count m.layout
head_seen m o w is takes = omega (arith, ap link_word is, head_fits m o (open_from_link m o (rw (← is) at (link_open w takes))))

held_over : (x : Keeper) → holder (taken_over x) ≡ holder x
held_over Listed = refl
held_over _ = refl

module _ (m : Machine) (holders : List (Option ℕ)) (runs : Option ℕ) (o : IsStored m holders runs) where
  -- a change that is no event
  stored_still : (words : List ℕ) (seats : List Private) (cursor : Option ℕ) (walked batch : List ℕ)
      → IsSound (record m { words = words; seats = seats; cursor = cursor; walked = walked; batch = batch })
      → LinksFit (number_count m.layout) words → LooksFit (number_count m.layout) seats
      → IsStored (record m { words = words; seats = seats; cursor = cursor; walked = walked; batch = batch }) holders runs
  stored_still words seats cursor walked batch sound links looks =
      record { sound = sound; has_holders = o.has_holders; holders_are = o.holders_are; running_is = o.running_is; links_fit = links; looks_fit = looks }

  -- an event that moves no number, and neither begins nor ends one
  stored_quiet : (words : List ℕ) (seats : List Private) (cursor : Option ℕ) (walked batch : List ℕ) (e : Event)
      → IsSound (happened (record m { words = words; seats = seats; cursor = cursor; walked = walked; batch = batch }) e)
      → ((j : ℕ) (x : Keeper) → holder (keeper_after j x e) ≡ holder x) → runs ≡ running (m.history ++ e ∷ [])
      → LinksFit (number_count m.layout) words → LooksFit (number_count m.layout) seats
      → IsStored (happened (record m { words = words; seats = seats; cursor = cursor; walked = walked; batch = batch }) e) holders runs
  stored_quiet words seats cursor walked batch e sound quiet same links looks = record {
    sound = sound;
    has_holders = o.has_holders;
    holders_are = follow_quiet holder None (λ j. j) _ holders m.history e quiet o.holders_are;
    running_is = same;
    links_fit = links;
    looks_fit = looks;
  }

  -- the head is swapped by such an event
  swapped : (word : ℕ) (e : Event) → IsSound (after_swap m word e) → ((j : ℕ) (x : Keeper) → holder (keeper_after j x e) ≡ holder x)
      → runs ≡ running (m.history ++ e ∷ []) → IsStored (after_swap m word e) holders runs
  swapped word e sound spares same = stored_quiet _ _ _ _ _ e sound spares same (fit_head _ m.words word o.links_fit) o.looks_fit

  pub stored_hold : (s k : ℕ) → s < m.layout.senders → k < number_count m.layout → item_word m k ≡ 0
      → IsStored (happened (with_item m k 1) (Hold s k)) (set holders k (Some s)) runs
  stored_hold s k seat number clear = record {
    sound = sound_hold m o.sound s k seat number clear;
    has_holders = length-set holders k _ ∙ o.has_holders;
    holders_are =
        follow_give holder None (λ j. j) _ holders m.history (Hold s k) k (Sender s) (λ j e. e) (omega (arith, o.has_holders, number))
        (gives_hold s k) o.holders_are;
    running_is = simp growing o.running_is;
    links_fit = fit_item _ m.words 1 o.links_fit k;
    looks_fit = o.looks_fit;
  }

  pub stored_busy : (s k : ℕ) → s < m.layout.senders → k < number_count m.layout → item_word m k ≢ 0 → IsStored (happened m (Busy s k)) holders runs
  stored_busy s k seat number set' =
      stored_quiet _ _ _ _ _ (Busy s k) (sound_busy m o.sound s k seat number set') (λ j x. refl) (simp growing o.running_is) o.links_fit o.looks_fit

  pub stored_look : (s : ℕ) → s < m.layout.senders → IsStored (with_private m s (record { seen = Some (head m); linked = None })) holders runs
  stored_look s seat =
      stored_still _ _ _ _ _ (sound_look m o.sound s seat) o.links_fit
      (fit_look _ m.seats s _ (omega (arith, o.sound.has_seats, seat)) (λ w is takes. head_seen m o.sound w (cc is) takes) o.looks_fit)

  pub stored_link : (s k w : ℕ) → s < m.layout.senders → k < number_count m.layout → Holds m.history s k → (private m s).seen ≡ Some w → TakesPushes w
      → IsStored (with_private (with_link m k (link_word w)) s (record (private m s) { linked = Some k })) holders runs
  stored_link s k w seat number holds seen takes =
      stored_still _ _ _ _ _ (sound_link m o.sound s k (link_word w) seat number holds (ap link_to seen) (link_open w takes))
      (fit_link _ m.words (link_word w) o.links_fit k (omega (arith, o.sound.has_words, number)) (o.looks_fit s w seen takes))
      (fit_look _ m.seats s _ (omega (arith, o.sound.has_seats, seat)) (λ v is takes'. o.looks_fit s v is takes') o.looks_fit)

  pub stored_push : (s k : ℕ) → s < m.layout.senders → k < number_count m.layout → (private m s).linked ≡ Some k → head m ≡ seen_word m s
      → IsStored (happened (with_private (with_head m (k + 1)) s nothing_seen) (Push s k)) (set holders k None) runs
  stored_push s k seat number linked won = record {
    sound = sound_push m o.sound s k seat number linked won;
    has_holders = length-set holders k _ ∙ o.has_holders;
    holders_are =
        follow_give holder None (λ j. j) _ holders m.history (Push s k) k Listed (λ j e. e) (omega (arith, o.has_holders, number))
        (gives_push s k) o.holders_are;
    running_is = simp growing o.running_is;
    links_fit = fit_head _ m.words (k + 1) o.links_fit;
    looks_fit = fit_look _ m.seats s nothing_seen (omega (arith, o.sound.has_seats, seat)) (λ w is. absurd (cc is)) o.looks_fit;
  }

  pub stored_lost : (s : ℕ) → s < m.layout.senders → IsStored (with_private m s nothing_seen) holders runs
  stored_lost s seat =
      stored_still _ _ _ _ _ (sound_lost m o.sound s seat) o.links_fit
      (fit_look _ m.seats s nothing_seen (omega (arith, o.sound.has_seats, seat)) (λ w is. absurd (cc is)) o.looks_fit)

  pub stored_back : (s k : ℕ) (why : Why) → s < m.layout.senders → k < number_count m.layout → Holds m.history s k
      → HasSeenCause why (private m s).seen
      → IsStored (happened (with_private (with_item m k 0) s (unlinked (private m s) k)) (Back s k why)) (set holders k None) runs
  stored_back s k why seat number holds sees = record {
    sound = sound_back m o.sound s k why seat number holds sees;
    has_holders = length-set holders k _ ∙ o.has_holders;
    holders_are =
        follow_give holder None (λ j. j) _ holders m.history (Back s k why) k Home (λ j e. e) (omega (arith, o.has_holders, number))
        (gives_back s k why) o.holders_are;
    running_is = simp growing o.running_is;
    links_fit = fit_item _ m.words 0 o.links_fit k;
    looks_fit = fit_look _ m.seats s _ (omega (arith, o.sound.has_seats, seat)) (λ w is takes. o.looks_fit s w is takes) o.looks_fit;
  }

  -- the owner swaps the head
  pub stored_swap : (word : ℕ) (e : Event) → MaySwap m word e → IsStored (after_swap m word e) holders runs
  stored_swap word Take may = swapped word Take (rw may.0 (sound_take m o.sound may.1.0 may.1.1)) (λ j x. held_over x) (simp growing o.running_is)
  stored_swap word Close may = swapped word Close (rw may.0 (sound_close m o.sound may.1.0 may.1.1)) (λ j x. held_over x) (simp growing o.running_is)
  stored_swap word Drain may = swapped word Drain (rw may.0 (sound_drain m o.sound may.1.0 may.1.1)) (λ j x. held_over x) (simp growing o.running_is)
  stored_swap word Resume may =
      swapped word Resume (rw may.0 (sound_resume m o.sound may.1.0 may.1.1 may.1.2 may.1.3)) (λ j x. refl) (simp growing o.running_is)
  stored_swap word _ may = absurd may

  pub stored_rest : ¬ IsShut m.history → m.cursor ≡ None → m.batch ≡ [] → ¬ IsRunning m.history → head m ≡ busy_word
      → IsStored (happened (with_head m resting_word) Rest) holders runs
  stored_rest opens still empty idle busy =
      stored_quiet _ _ _ _ _ Rest (sound_rest m o.sound opens still empty idle busy) (λ j x. refl) (simp growing o.running_is)
      (fit_head _ m.words resting_word o.links_fit) o.looks_fit

  pub stored_walk_end : (k : ℕ) → m.cursor ≡ Some k → link m k ≡ 0
      → IsStored (record m { cursor = None; walked = []; batch = m.batch ++ k ∷ m.walked }) holders runs
  stored_walk_end k on is = stored_still _ _ _ _ _ (sound_walk_end m o.sound k on is) o.links_fit o.looks_fit

  pub stored_walk_on : (k : ℕ) → m.cursor ≡ Some k → link m k ≢ 0 → IsStored (record m { cursor = number_at (link m k); walked = k ∷ m.walked }) holders runs
  stored_walk_on k on more = stored_still _ _ _ _ _ (sound_walk_on m o.sound k on more) o.links_fit o.looks_fit

  pub stored_turn : (k v : ℕ) → StandsIn m.walked m.batch k → k < number_count m.layout → v ≤ number_count m.layout → IsStored (with_link m k v) holders runs
  stored_turn k v stands number small =
      stored_still _ _ _ _ _ (sound_turn m o.sound k stands v number)
      (fit_link _ m.words v o.links_fit k (omega (arith, o.sound.has_words, number)) small) o.looks_fit

  pub stored_begin : (k : ℕ) (rest : List ℕ) → m.cursor ≡ None → m.batch ≡ k ∷ rest → ¬ IsRunning m.history
      → IsStored (happened (record (with_item m k 0) { batch = rest }) (Begin k)) holders (Some k)
  stored_begin k rest still first idle =
      let order = in_order m.layout m.history o.sound.legal in
      let ends = prefix_length (ended m.history) (begun m.history) order.ended_first in
      let last : length (ended m.history) ≡ length (begun m.history) = omega (arith, idle, ends) in
      record {
        sound = sound_begin m o.sound k rest still first idle;
        has_holders = o.has_holders;
        holders_are =
            follow_same holder None (λ j. j) _ holders m.history (Begin k) k Home (gives_begin k) (sym (free (keeper m.history k) refl)) o.holders_are;
        running_is = simp growing (rw last (sym (slice_get_last (begun m.history) k [])));
        links_fit = fit_item _ m.words 0 o.links_fit k;
        looks_fit = o.looks_fit;
      }
    where
      free : (x : Keeper) → keeper m.history k ≡ x → holder x ≡ None
      free (Sender s) is = absurd ((first_of_batch m o.sound k rest still first).2 s is)
      free _ is = refl

  pub stored_end : (k : ℕ) → runs ≡ Some k → IsStored (happened (with_done m ((done_word m + 1) % 2 ^ 64)) (End k)) holders None
  stored_end k is =
      let order = in_order m.layout m.history o.sound.legal in
      record {
        sound = sound_end m o.sound k (sym o.running_is ∙ is);
        has_holders = o.has_holders;
        holders_are = follow_quiet holder None (λ j. j) _ holders m.history (End k) (λ j x. refl) o.holders_are;
        running_is =
            simp growing
            (sym (slice_get_past (begun m.history) (length (ended m.history ++ k ∷ [])) (simp length-append (omega (arith, order.one_at_a_time)))));
        links_fit = fit_done _ m.words ((done_word m + 1) % 2 ^ 64) o.links_fit;
        looks_fit = o.looks_fit;
      }

  pub stored_chain : (k : ℕ) → k < m.layout.items → IsShut m.history → m.cursor ≡ None → IsRunning m.history → item_word m k ≡ 0
      → IsStored (happened (record (with_item m k 1) { batch = m.batch ++ k ∷ [] }) (Chain k)) holders runs
  stored_chain k item is still busy clear =
      let home = home_from_clear m o.sound k (omega (arith, item)) clear in
      record {
        sound = sound_chain m o.sound k item is still busy clear;
        has_holders = o.has_holders;
        holders_are = follow_same holder None (λ j. j) _ holders m.history (Chain k) k Owner (gives_chain k) (rw home refl) o.holders_are;
        running_is = simp growing o.running_is;
        links_fit = fit_item _ m.words 1 o.links_fit k;
        looks_fit = o.looks_fit;
      }

  pub stored_chain_busy : (k : ℕ) → k < m.layout.items → IsShut m.history → IsRunning m.history → item_word m k ≢ 0
      → IsStored (happened m (ChainBusy k)) holders runs
  stored_chain_busy k item is busy set' =
      stored_quiet _ _ _ _ _ (ChainBusy k) (sound_chain_busy m o.sound k item is busy set') (λ j x. refl) (simp growing o.running_is)
      o.links_fit o.looks_fit

  -- the stored holder is the sender that holds the number, and something is stored as running exactly while a number runs
  pub holds_stored : (s k : ℕ) → k < number_count m.layout → (get_or holders k None ≡ Some s) ↔ Holds m.history s k
  holds_stored s k number = (
    λ is. holds_from_keeper m.layout m.history o.sound.legal s k (sender (keeper m.history k) (sym (o.holders_are k number) ∙ is)),
    λ holds. o.holders_are k number ∙ ap holder (sender_from_holds m o.sound s k holds),
  )
    where
      sender : (x : Keeper) → holder x ≡ Some s → x ≡ Sender s
      sender (Sender t) e = cc
      sender _ e = absurd cc

-- a list whose reverse is not empty, by its last element
pub by_last : (xs ys : List ℕ) (k : ℕ) → xs ≡ ys ++ k ∷ [] → reverse xs ≡ k ∷ reverse ys
by_last xs ys k e = rw e (reverse-append ys (k ∷ []))

-- an event is added
pub grows : (h : List Event) (e : Event) → h ++ e ∷ [] ≢ h
grows h e same = omega (arith, length-append h (e ∷ []), ap length same)

-- a stack that is not empty: its top, and what is left when that is taken off
pub by_top : (xs : List ℕ) (k : ℕ) → reverse xs ≢ [] → k ≡ get_or xs (length xs - 1) k → reverse xs ≡ k ∷ reverse (take (length xs - 1) xs)
by_top xs k ne top = go xs refl ne
  where
    go : (ys : List ℕ) → xs ≡ ys → reverse ys ≢ [] → reverse xs ≡ k ∷ reverse (take (length xs - 1) xs)
    go [] is ne' = absurd (ne' refl)
    go (y ∷ ys) is ne' =
        let lt : length xs - 1 < length xs = omega (arith, ap length is) in
        let full : length xs - 1 + 1 ≡ length xs = omega (arith, lt) in
        by_last xs (take (length xs - 1) xs) k
        (sym (take_all (length xs) xs (omega arith)) ∙ rw full at (take_more xs (length xs - 1) k lt) ∙ ap (λ t. take (length xs - 1) xs ++ t ∷ []) (sym top))

pub stored_opening : (layout : Layout) → IsStored (opening layout) (replicate (number_count layout) None) None
stored_opening layout = record {
  sound = sound_opening layout;
  has_holders = length-replicate _ _;
  holders_are = λ k lt. all_alike _ k None;
  running_is = refl;
  links_fit = λ k lt. omega (arith, all_alike {A = ℕ} (word_count (number_count layout)) (link_place k) 0);
  looks_fit = λ s w is. absurd (cc (is, ap (λ (p : Private). p.seen) (all_alike layout.senders s nothing_seen)));
}
