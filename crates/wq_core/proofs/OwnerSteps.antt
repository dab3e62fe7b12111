-- Each of the owner's steps keeps what is sound: one lemma a step.
use Rattle.wq_core.proofs.Common.{Drain, Resume, IsShut, shut, IsDraining, after_swap, draining_word, head_word, head_of_list, closed_shuts, shut_quiet}
use Rattle.wq_core.proofs.Common.{shut_from_open, open_from_closed, IsShut_from_shut, shut_drain, shut_resume, at_work_draining, wakes_quiet, listed-shut, ◌≡◌}
use Rattle.wq_core.proofs.Common.{◌≢◌, ℕ, ◌+◌, ◌%◌, ◌^◌, ◌<◌, true, false, List, [], ◌∷◌, ◌++◌, length, Option, None, Some, slice_get, refl, sym, ap, ◌∙◌}
use Rattle.wq_core.proofs.Common.{arith, length-set, get_or-set_same, length_push, append-nil, fold_push, Event, IsAllowed, Take, Close, Begin, End, Chain}
use Rattle.wq_core.proofs.Common.{ChainBusy, Rest, number_count, busy_word, wakes, accepted, accepted_by, begun, begun_by, ended, ended_by, is_close, IsClosed}
use Rattle.wq_core.proofs.Common.{IsRunning, running, listed_after, listed, Keeper, Home, Sender, Listed, Owner, taken_over, keeper_after, keeper, growing}
use Rattle.wq_core.proofs.Common.{count_by_push, filter_map_push_some, slice_get_append, in_order, legal_push, closed_from_open, closed_push_no, pending_bit}
use Rattle.wq_core.proofs.Common.{item_place, done_place, head_place, closed_word, resting_word, number_at, Machine, head, link, item_word, done_word, with_head}
use Rattle.wq_core.proofs.Common.{with_item, with_done, happened, prefix_length, wakes_push_work, wakes_push_rest, head_word_of, AreChained, IsSound}
use Rattle.std.proofs.Math.Nat.{add-mod-mod}
use Rattle.wq_core.proofs.Chains.{chain_zero, chained_take, chained_begin, chained_walk_on, chained_walk_end, chained_chain, cursor_number}
use Rattle.wq_words.proofs.Keepers.{gives_begin, gives_chain}
use Rattle.wq_core.proofs.Privates.{follow_give, follow_quiet, linked_quiet, linked_spares, seen_after}
use Rattle.wq_core.proofs.Writes.{head_of-item, done_of-item, chains_of-item, linked_of-item, done_of-head, items_of-head, chains_of-head, linked_of-head}
use Rattle.wq_core.proofs.Writes.{head_of-done, items_of-done, chains_of-done, linked_of-done}
use Rattle.wq_core.proofs.Heads.{head_of_closed, head_of_draining, head_word_unshut, quiet, head_word_quiet, rests_quiet, ended_quiet, cursor_swapped}
use Rattle.wq_core.proofs.Heads.{busy_list}
use Rattle.wq_words.proofs.Accepted.{accepted_number}
use Rattle.wq_core.proofs.KeptSound.{by_keepers, from_keepers, home_from_clear, idle_from_home, pending_from_set, away_from_sender}
use Rattle.wq_core.proofs.KeptSound.{sound_quiet}

module _ (m : Machine) (o : IsSound m) where
  -- no sender's number changes its keeper where the list goes to the owner
  taken_bit : (x : Keeper) → pending_bit (taken_over x) ≡ pending_bit x
  taken_bit Listed = refl
  taken_bit _ = refl

  -- the owner swaps the head for this word: what stood on the list is walked next
  sound_swap : (word : ℕ) (e : Event) → IsAllowed m.layout m.history e → ¬ IsClosed m.history → m.cursor ≡ None
      → head_word_of (m.history ++ e ∷ []) ≡ word → listed (m.history ++ e ∷ []) ≡ []
      → ((j : ℕ) (x : Keeper) → pending_bit (keeper_after j x e) ≡ pending_bit x) → ((j s : ℕ) → keeper_after j (Sender s) e ≡ Sender s)
      → accepted_by e ≡ None → begun_by e ≡ None → ended_by e ≡ None
      → IsSound (after_swap m word e)
  sound_swap word e allowed unclosed still now list same_bit spares no_accept no_begin no_end =
      let b = by_keepers m o in
      let n : ℕ = number_count m.layout in
      let a = rw still at o.chains in
      let walked : m.walked ≡ [] = a.none_walked refl in
      let first : ℕ = head_word (head_of_list (listed m.history)) in
      let c = rw (← cursor_swapped m o unclosed) at (chained_take n m.words m.walked m.batch _ _ (listed m.history) first refl a) in
      from_keepers (after_swap m word e) (record {
        has_words = length-set m.words head_place word ∙ o.has_words;
        has_seats = o.has_seats;
        legal = legal_push m.layout m.history e o.legal allowed;
        head_is = get_or-set_same m.words head_place word 0 (omega (arith, o.has_words)) ∙ sym now;
        rests = λ on. list;
        items_are = follow_quiet pending_bit 0 (item_place n) n _ m.history e same_bit (items_of-head n m.words word m.history b.items_are);
        done_is = done_of-head n m.words word ∙ o.done_is ∙ ap (λ z. z % 2 ^ 64) (sym (ended_quiet m.history e no_end));
        chains = rw list (simp (growing, no_accept, no_begin) (rw walked (chains_of-head n m.words word _ _ _ _ _ _ c)));
        linked = linked_quiet n _ m.seats m.history e spares (linked_of-head n m.words word m.seats m.history b.linked);
        seen = seen_after m.seats m.history e o.seen;
      })

  pub sound_take : ¬ IsShut m.history → m.cursor ≡ None → IsSound (after_swap m busy_word Take)
  sound_take opens still =
      let list : listed (m.history ++ Take ∷ []) ≡ [] = fold_push listed_after [] m.history Take in
      let opened : shut (m.history ++ Take ∷ []) ≡ false = shut_quiet m.history Take refl refl refl ∙ shut_from_open m.history opens in
      let works : wakes (m.history ++ Take ∷ []) ≡ false = wakes_push_work m.history Take refl in
      let now : head_word_of (m.history ++ Take ∷ []) ≡ busy_word =
      head_word_unshut (m.history ++ Take ∷ []) opened ∙ rw (list, works) refl in
      sound_swap busy_word Take (tt, tt, opens) (λ closes. opens (closed_shuts m.history closes)) still now list (λ j x. taken_bit x) (λ j s. refl)
      refl refl refl

  pub sound_close : ¬ IsClosed m.history → m.cursor ≡ None → IsSound (after_swap m closed_word Close)
  sound_close unclosed still =
      let is : IsClosed (m.history ++ Close ∷ []) = omega (arith, count_by_push is_close m.history Close) in
      sound_swap closed_word Close (tt, tt, unclosed) unclosed still (head_of_closed (m.history ++ Close ∷ []) is)
      (fold_push listed_after [] m.history Close) (λ j x. taken_bit x) (λ j s. refl) refl refl refl

  pub sound_drain : ¬ IsShut m.history → m.cursor ≡ None → IsSound (after_swap m draining_word Drain)
  sound_drain opens still =
      let unclosed : ¬ IsClosed m.history = λ closes. opens (closed_shuts m.history closes) in
      let on : ¬ IsClosed (m.history ++ Drain ∷ []) =
      open_from_closed (m.history ++ Drain ∷ []) (closed_push_no m.history Drain refl ∙ closed_from_open m.history unclosed) in
      let is : IsDraining (m.history ++ Drain ∷ []) = (IsShut_from_shut (m.history ++ Drain ∷ []) (shut_drain m.history Drain refl refl), on) in
      sound_swap draining_word Drain (tt, tt, opens) unclosed still (head_of_draining (m.history ++ Drain ∷ []) is)
      (fold_push listed_after [] m.history Drain) (λ j x. taken_bit x) (λ j s. refl) refl refl refl

  -- the owner's own lists change, and nothing happens
  pub sound_owner : (cursor : Option ℕ) (walked batch : List ℕ)
      → AreChained (number_count m.layout) m.words cursor walked batch (accepted m.history) (begun m.history) (listed m.history)
      → IsSound (record m { cursor = cursor; walked = walked; batch = batch })
  sound_owner cursor walked batch a = record {
    has_words = o.has_words;
    has_seats = o.has_seats;
    legal = o.legal;
    head_is = o.head_is;
    rests = o.rests;
    items_are = o.items_are;
    done_is = o.done_is;
    chains = a;
    linked = o.linked;
    seen = o.seen;
  }

  pub sound_walk_end : (k : ℕ) → m.cursor ≡ Some k → link m k ≡ 0 → IsSound (record m { cursor = None; walked = []; batch = m.batch ++ k ∷ m.walked })
  sound_walk_end k on is =
      sound_owner None [] (m.batch ++ k ∷ m.walked) (chained_walk_end (number_count m.layout) m.words k m.walked m.batch _ _ _ is (rw on at o.chains))

  pub sound_walk_on : (k : ℕ) → m.cursor ≡ Some k → link m k ≢ 0 → IsSound (record m { cursor = number_at (link m k); walked = k ∷ m.walked })
  sound_walk_on k on more =
      sound_owner (number_at (link m k)) (k ∷ m.walked) m.batch
      (chained_walk_on (number_count m.layout) m.words k m.walked m.batch _ _ _ more (rw on at o.chains))

  -- the number at the cursor is one of the queue's
  pub cursor_is : (k : ℕ) → m.cursor ≡ Some k → k < number_count m.layout
  cursor_is k on = cursor_number (number_count m.layout) m.words k m.walked m.batch _ _ _ (rw on at o.chains)

  -- the first of the batch is the next number to begin, and no sender keeps it
  pub first_of_batch : (k : ℕ) (rest : List ℕ) → m.cursor ≡ None → m.batch ≡ k ∷ rest
      → (k < number_count m.layout) × (slice_get (accepted m.history) (length (begun m.history)) ≡ Some k) × ((s : ℕ) → keeper m.history k ≡ Sender s → ⊥)
  first_of_batch k rest still first =
      let b = chained_begin (number_count m.layout) m.words m.walked rest _ _ _ k (rw (still, first) at o.chains) in
      (accepted_number m.layout m.history o.legal (length (begun m.history)) k b.1, b.1, λ s mine. omega (arith, away_from_sender m o s k mine, b.2))

  pub sound_begin : (k : ℕ) (rest : List ℕ) → m.cursor ≡ None → m.batch ≡ k ∷ rest → ¬ IsRunning m.history
      → IsSound (happened (record (with_item m k 0) { batch = rest }) (Begin k))
  sound_begin k rest still first idle =
      let b = by_keepers m o in
      let n : ℕ = number_count m.layout in
      let c = chained_begin n m.words m.walked rest _ _ _ k (rw (still, first) at o.chains) in
      let f = first_of_batch k rest still first in
      let number = f.0 in
      from_keepers (happened (record (with_item m k 0) { batch = rest }) (Begin k)) (record {
        has_words = length-set m.words (item_place n k) 0 ∙ o.has_words;
        has_seats = o.has_seats;
        legal = legal_push m.layout m.history (Begin k) o.legal (tt, number, (idle, f.1));
        head_is = head_of-item n m.words 0 k number ∙ o.head_is ∙ sym (head_word_quiet m.history (Begin k) (quiet refl refl refl refl) refl);
        rests = rests_quiet m.history (Begin k) (quiet refl refl refl refl) refl o.rests;
        items_are =
            follow_give pending_bit 0 (item_place n) n m.words m.history (Begin k) k Home (λ j e. omega (arith, e)) (omega (arith, o.has_words, number))
            (gives_begin k) b.items_are;
        done_is = done_of-item n m.words 0 k number ∙ o.done_is ∙ ap (λ z. z % 2 ^ 64) (sym (ended_quiet m.history (Begin k) refl));
        chains = simp growing (rw still (chains_of-item n m.words 0 k number _ _ _ _ _ _ c.0));
        linked = linked_spares n _ m.seats m.history (Begin k) k (gives_begin k).0 f.2 (linked_of-item n m.words 0 k number m.seats m.history b.linked);
        seen = seen_after m.seats m.history (Begin k) o.seen;
      })

  pub sound_end : (k : ℕ) → running m.history ≡ Some k → IsSound (happened (with_done m ((done_word m + 1) % 2 ^ 64)) (End k))
  sound_end k runs =
      let b = by_keepers m o in
      let n : ℕ = number_count m.layout in
      let v : ℕ = (done_word m + 1) % 2 ^ 64 in
      let front = (in_order m.layout m.history o.legal).begun_first in
      let number =
      accepted_number m.layout m.history o.legal (length (ended m.history)) k
      (rw (← front.1) (slice_get_append (begun m.history) front.0 (length (ended m.history)) k runs)) in
      let more : length (ended (m.history ++ End k ∷ [])) ≡ length (ended m.history) + 1 =
      ap length (filter_map_push_some ended_by m.history (End k) k refl) ∙ length_push (ended m.history) k in
      let count : v ≡ length (ended (m.history ++ End k ∷ [])) % 2 ^ 64 =
      ap (λ z. (z + 1) % 2 ^ 64) o.done_is ∙ ap (λ z. z % 2 ^ 64) (omega arith) ∙ add-mod-mod 1 (length (ended m.history)) (2 ^ 64)
      ∙ ap (λ z. z % 2 ^ 64) (omega (arith, more)) in
      from_keepers (happened (with_done m v) (End k)) (record {
        has_words = length-set m.words (done_place n) v ∙ o.has_words;
        has_seats = o.has_seats;
        legal = legal_push m.layout m.history (End k) o.legal (tt, number, runs);
        head_is = head_of-done n m.words v ∙ o.head_is ∙ sym (head_word_quiet m.history (End k) (quiet refl refl refl refl) refl);
        rests = rests_quiet m.history (End k) (quiet refl refl refl refl) refl o.rests;
        items_are = follow_quiet pending_bit 0 (item_place n) n _ m.history (End k) (λ j x. refl) (items_of-done n m.words v m.history b.items_are);
        done_is = get_or-set_same m.words (done_place n) v 0 (omega (arith, o.has_words)) ∙ count;
        chains = simp growing (chains_of-done n m.words v _ _ _ _ _ _ o.chains);
        linked = linked_quiet n _ m.seats m.history (End k) (λ j s. refl) (linked_of-done n m.words v m.seats m.history b.linked);
        seen = seen_after m.seats m.history (End k) o.seen;
      })

  pub sound_chain : (k : ℕ) → k < m.layout.items → IsShut m.history → m.cursor ≡ None → IsRunning m.history → item_word m k ≡ 0
      → IsSound (happened (record (with_item m k 1) { batch = m.batch ++ k ∷ [] }) (Chain k))
  sound_chain k item is still runs clear =
      let b = by_keepers m o in
      let n : ℕ = number_count m.layout in
      let number : k < n = omega (arith, item) in
      let home = home_from_clear m o k number clear in
      let a = rw still at o.chains in
      let walked : m.walked ≡ [] = a.none_walked refl in
      let none : listed m.history ≡ [] = listed-shut m.layout m.history o.legal is in
      let c = chained_chain n m.words m.batch _ _ k (rw (walked, none) at a) in
      from_keepers (happened (record (with_item m k 1) { batch = m.batch ++ k ∷ [] }) (Chain k)) (record {
        has_words = length-set m.words (item_place n k) 1 ∙ o.has_words;
        has_seats = o.has_seats;
        legal = legal_push m.layout m.history (Chain k) o.legal (tt, item, (is, runs, idle_from_home m o k home));
        head_is = head_of-item n m.words 1 k number ∙ o.head_is ∙ sym (head_word_quiet m.history (Chain k) (quiet refl refl refl refl) refl);
        rests = rests_quiet m.history (Chain k) (quiet refl refl refl refl) refl o.rests;
        items_are =
            follow_give pending_bit 0 (item_place n) n m.words m.history (Chain k) k Owner (λ j e. omega (arith, e)) (omega (arith, o.has_words, number))
            (gives_chain k) b.items_are;
        done_is = done_of-item n m.words 1 k number ∙ o.done_is ∙ ap (λ z. z % 2 ^ 64) (sym (ended_quiet m.history (Chain k) refl));
        chains = simp growing (rw (still, walked, none) (chains_of-item n m.words 1 k number _ _ _ _ _ _ c));
        linked =
            linked_spares n _ m.seats m.history (Chain k) k (gives_chain k).0 (λ s mine. cc (home, mine))
            (linked_of-item n m.words 1 k number m.seats m.history b.linked);
        seen = seen_after m.seats m.history (Chain k) o.seen;
      })

  pub sound_chain_busy : (k : ℕ) → k < m.layout.items → IsShut m.history → IsRunning m.history → item_word m k ≢ 0 → IsSound (happened m (ChainBusy k))
  sound_chain_busy k item is runs set' =
      sound_quiet m o (ChainBusy k) (tt, item, (is, runs, pending_from_set m o k (omega (arith, item)) set')) (λ j x. refl) refl refl refl (λ ks. refl)
      (quiet refl refl refl refl)

  -- where nothing is listed, nothing taken waits and nothing runs, as many ended as were accepted
  all_ended : m.cursor ≡ None → m.batch ≡ [] → ¬ IsRunning m.history → listed m.history ≡ [] → length (ended m.history) ≡ length (accepted m.history)
  all_ended still empty idle none =
      let a = rw (still, empty, none) at o.chains in
      let walked : m.walked ≡ [] = a.none_walked refl in
      let remains : a.remaining ≡ [] = chain_zero (number_count m.layout) m.words a.remaining a.walk_chain in
      let order : accepted m.history ≡ begun m.history = rw (walked, remains) at a.order ∙ simp append-nil in
      let ends = prefix_length (ended m.history) (begun m.history) (in_order m.layout m.history o.legal).ended_first in
      omega (arith, idle, ends, ap length order)

  -- a drain ends only so
  pub sound_resume : IsDraining m.history → m.cursor ≡ None → m.batch ≡ [] → ¬ IsRunning m.history → IsSound (after_swap m busy_word Resume)
  sound_resume drains still empty idle =
      let none : listed m.history ≡ [] = listed-shut m.layout m.history o.legal drains.0 in
      let list : listed (m.history ++ Resume ∷ []) ≡ [] = fold_push listed_after [] m.history Resume ∙ none in
      let opened : shut (m.history ++ Resume ∷ []) ≡ false = shut_resume m.history Resume refl refl drains.1 in
      let works : wakes (m.history ++ Resume ∷ []) ≡ false = wakes_quiet m.history Resume refl refl ∙ at_work_draining m.layout m.history o.legal drains in
      let now : head_word_of (m.history ++ Resume ∷ []) ≡ busy_word =
      head_word_unshut (m.history ++ Resume ∷ []) opened ∙ rw (list, works) refl in
      sound_swap busy_word Resume (tt, tt, (drains, all_ended still empty idle none)) drains.1 still now list (λ j x. refl) (λ j s. refl) refl refl refl

  pub sound_rest : ¬ IsShut m.history → m.cursor ≡ None → m.batch ≡ [] → ¬ IsRunning m.history → head m ≡ busy_word
      → IsSound (happened (with_head m resting_word) Rest)
  sound_rest opens still empty idle busy =
      let b = by_keepers m o in
      let n : ℕ = number_count m.layout in
      let none : listed m.history ≡ [] = busy_list m o opens busy in
      let list : listed (m.history ++ Rest ∷ []) ≡ [] = fold_push listed_after [] m.history Rest ∙ none in
      let opened : shut (m.history ++ Rest ∷ []) ≡ false = shut_quiet m.history Rest refl refl refl ∙ shut_from_open m.history opens in
      let rested : wakes (m.history ++ Rest ∷ []) ≡ true = wakes_push_rest m.history in
      let now : head_word_of (m.history ++ Rest ∷ []) ≡ resting_word =
      head_word_unshut (m.history ++ Rest ∷ []) opened ∙ rw (list, rested) refl in
      from_keepers (happened (with_head m resting_word) Rest) (record {
        has_words = length-set m.words head_place resting_word ∙ o.has_words;
        has_seats = o.has_seats;
        legal = legal_push m.layout m.history Rest o.legal (tt, tt, (opens, all_ended still empty idle none));
        head_is = get_or-set_same m.words head_place resting_word 0 (omega (arith, o.has_words)) ∙ sym now;
        rests = λ on. list;
        items_are = follow_quiet pending_bit 0 (item_place n) n _ m.history Rest (λ j x. refl) (items_of-head n m.words resting_word m.history b.items_are);
        done_is = done_of-head n m.words resting_word ∙ o.done_is ∙ ap (λ z. z % 2 ^ 64) (sym (ended_quiet m.history Rest refl));
        chains = simp growing (chains_of-head n m.words resting_word _ _ _ _ _ _ o.chains);
        linked = linked_quiet n _ m.seats m.history Rest (λ j s. refl) (linked_of-head n m.words resting_word m.seats m.history b.linked);
        seen = seen_after m.seats m.history Rest o.seen;
      })
