-- Each of a sender's steps keeps what is sound: one lemma a step.
use Rattle.wq_core.proofs.Common.{IsShut, shut, TakesPushes, HasSeenCause, IsCause, shut_quiet, shut_from_open, subst, ◌≡◌, ◌≢◌, ℕ, ◌+◌, ◌%◌, ◌^◌, ◌<◌, false}
use Rattle.wq_core.proofs.Common.{[], ◌∷◌, ◌++◌, length, None, Some, refl, sym, ap, ◌∙◌, arith, length-set, get_or-set_same, fold_push, Why, Hold, Busy, Push}
use Rattle.wq_core.proofs.Common.{Back, number_count, Holds, listed_after, listed, Home, Sender, Listed, growing, legal_push, pending_bit, wakes_push_work}
use Rattle.wq_core.proofs.Common.{link_place, item_place, head_place, link_word, link_to, Private, Machine, nothing_seen, head, link, item_word, private}
use Rattle.wq_core.proofs.Common.{seen_word, with_head, with_link, with_item, with_private, happened, unlinked, head_word_of, IsSound}
use Rattle.wq_core.proofs.Chains.{chained_set, chained_push}
use Rattle.wq_words.proofs.Keepers.{gives_hold, gives_push, gives_back}
use Rattle.wq_core.proofs.Privates.{follow_give, follow_same, linked_spares, linked_give, keeps_unlinked, linked_link}
use Rattle.wq_core.proofs.Privates.{linked_forget, none_seen, seen_after, seen_set}
use Rattle.wq_core.proofs.Writes.{head_of-item, done_of-item, chains_of-item, linked_of-item, done_of-head, items_of-head, chains_of-head, linked_of-head}
use Rattle.wq_core.proofs.Writes.{head_of-link, done_of-link, items_of-link}
use Rattle.wq_core.proofs.Heads.{quiet, head_word_unshut, head_word_quiet, rests_quiet, ended_quiet, cause_from_head, open_from_link, head_open, link_seen}
use Rattle.wq_core.proofs.KeptSound.{by_keepers, from_keepers, home_from_clear, idle_from_home, pending_from_set, sender_from_holds, away_from_sender}
use Rattle.wq_core.proofs.KeptSound.{sound_quiet}

module _ (m : Machine) (o : IsSound m) where
  pub sound_hold : (s k : ℕ) → s < m.layout.senders → k < number_count m.layout → item_word m k ≡ 0 → IsSound (happened (with_item m k 1) (Hold s k))
  sound_hold s k seat number clear =
      let b = by_keepers m o in
      let home = home_from_clear m o k number clear in
      let n : ℕ = number_count m.layout in
      from_keepers (happened (with_item m k 1) (Hold s k)) (record {
        has_words = length-set m.words (item_place n k) 1 ∙ o.has_words;
        has_seats = o.has_seats;
        legal = legal_push m.layout m.history (Hold s k) o.legal (seat, number, idle_from_home m o k home);
        head_is = head_of-item n m.words 1 k number ∙ o.head_is ∙ sym (head_word_quiet m.history (Hold s k) (quiet refl refl refl refl) refl);
        rests = rests_quiet m.history (Hold s k) (quiet refl refl refl refl) refl o.rests;
        items_are =
            follow_give pending_bit 0 (item_place n) n m.words m.history (Hold s k) k (Sender s) (λ j e. omega (arith, e)) (omega (arith, o.has_words, number))
            (gives_hold s k) b.items_are;
        done_is = done_of-item n m.words 1 k number ∙ o.done_is ∙ ap (λ z. z % 2 ^ 64) (sym (ended_quiet m.history (Hold s k) refl));
        chains = simp growing (chains_of-item n m.words 1 k number _ _ _ _ _ _ o.chains);
        linked =
            linked_spares n _ m.seats m.history (Hold s k) k (gives_hold s k).0 (λ t mine. cc (home, mine))
            (linked_of-item n m.words 1 k number m.seats m.history b.linked);
        seen = seen_after m.seats m.history (Hold s k) o.seen;
      })

  pub sound_busy : (s k : ℕ) → s < m.layout.senders → k < number_count m.layout → item_word m k ≢ 0 → IsSound (happened m (Busy s k))
  sound_busy s k seat number set' =
      sound_quiet m o (Busy s k) (seat, number, pending_from_set m o k number set') (λ j x. refl) refl refl refl (λ ks. refl) (quiet refl refl refl refl)

  -- a sender keeps other things in private, and has linked nothing
  sound_private : (s : ℕ) (p : Private) → s < m.layout.senders → p.linked ≡ None → ((why : Why) → HasSeenCause why p.seen → IsCause m.history why)
      → IsSound (with_private m s p)
  sound_private s p seat none sees =
      let b = by_keepers m o in
      let in' : s < length m.seats = omega (arith, o.has_seats, seat) in
      from_keepers (with_private m s p) (record {
        has_words = o.has_words;
        has_seats = length-set m.seats s p ∙ o.has_seats;
        legal = o.legal;
        head_is = o.head_is;
        rests = o.rests;
        items_are = b.items_are;
        done_is = o.done_is;
        chains = o.chains;
        linked = linked_forget _ m.words m.seats m.history s p in' none b.linked;
        seen = seen_set m.seats m.history s p in' sees o.seen;
      })

  pub sound_look : (s : ℕ) → s < m.layout.senders → IsSound (with_private m s (record { seen = Some (head m); linked = None }))
  sound_look s seat = sound_private s (record { seen = Some (head m); linked = None }) seat refl (cause_from_head m o)

  pub sound_lost : (s : ℕ) → s < m.layout.senders → IsSound (with_private m s nothing_seen)
  sound_lost s seat = sound_private s nothing_seen seat refl (none_seen m.history)

  pub sound_link : (s k w : ℕ) → s < m.layout.senders → k < number_count m.layout → Holds m.history s k → link_to (private m s).seen ≡ Some w → TakesPushes w
      → IsSound (with_private (with_link m k w) s (record (private m s) { linked = Some k }))
  sound_link s k w seat number holds sees takes =
      let b = by_keepers m o in
      let n : ℕ = number_count m.layout in
      let in' : s < length m.seats = omega (arith, o.has_seats, seat) in
      let mine = sender_from_holds m o s k holds in
      let away = away_from_sender m o s k mine in
      from_keepers (with_private (with_link m k w) s (record (private m s) { linked = Some k })) (record {
        has_words = length-set m.words (link_place k) w ∙ o.has_words;
        has_seats = length-set m.seats s _ ∙ o.has_seats;
        legal = o.legal;
        head_is = head_of-link n m.words w k number ∙ o.head_is;
        rests = o.rests;
        items_are = items_of-link n m.words w k number m.history b.items_are;
        done_is = done_of-link n m.words w k number ∙ o.done_is;
        chains =
            chained_set n m.words _ _ _ _ _ _ (link_place k) w
            (λ j lt more e. (let same : j ≡ k = omega (arith, e) in omega (arith, rw same at more, away))) o.chains;
        linked = linked_link n m.words m.seats m.history s k w in' number (omega (arith, o.has_words, number)) mine sees takes b.linked;
        seen = seen_set m.seats m.history s _ in' (o.seen s) o.seen;
      })

  pub sound_push : (s k : ℕ) → s < m.layout.senders → k < number_count m.layout → (private m s).linked ≡ Some k → head m ≡ seen_word m s
      → IsSound (happened (with_private (with_head m (k + 1)) s nothing_seen) (Push s k))
  sound_push s k seat number linked won =
      let b = by_keepers m o in
      let n : ℕ = number_count m.layout in
      let in' : s < length m.seats = omega (arith, o.has_seats, seat) in
      let l = b.linked s k linked in
      let spelled : link_word (head m) ≡ link m k = ap link_word won ∙ link_seen (private m s).seen _ l.2 in
      let opens : ¬ IsShut m.history = open_from_link m o (subst TakesPushes (sym spelled) l.3) in
      let holds : Holds m.history s k = (o.linked s k linked).1 in
      let list : listed (m.history ++ Push s k ∷ []) ≡ k ∷ listed m.history = fold_push listed_after [] m.history (Push s k) in
      let opened : shut (m.history ++ Push s k ∷ []) ≡ false = shut_quiet m.history (Push s k) refl refl refl ∙ shut_from_open m.history opens in
      let now : head_word_of (m.history ++ Push s k ∷ []) ≡ k + 1 = head_word_unshut (m.history ++ Push s k ∷ []) opened ∙ rw list refl in
      from_keepers (happened (with_private (with_head m (k + 1)) s nothing_seen) (Push s k)) (record {
        has_words = length-set m.words head_place (k + 1) ∙ o.has_words;
        has_seats = length-set m.seats s _ ∙ o.has_seats;
        legal = legal_push m.layout m.history (Push s k) o.legal (seat, number, (holds, opens));
        head_is = get_or-set_same m.words head_place (k + 1) 0 (omega (arith, o.has_words)) ∙ sym now;
        rests = λ on. absurd (cc (on, wakes_push_work m.history (Push s k) refl));
        items_are =
            follow_same pending_bit 0 (item_place n) n _ m.history (Push s k) k Listed (gives_push s k) (rw l.1 refl)
            (items_of-head n m.words (k + 1) m.history b.items_are);
        done_is = done_of-head n m.words (k + 1) ∙ o.done_is ∙ ap (λ z. z % 2 ^ 64) (sym (ended_quiet m.history (Push s k) refl));
        chains =
            simp growing
            (chains_of-head n m.words (k + 1) _ _ _ _ _ _ (chained_push n m.words _ _ _ _ _ _ k number (sym spelled ∙ head_open m o opens) o.chains));
        linked =
            linked_give n _ m.seats m.history (Push s k) s k nothing_seen in' (gives_push s k).0 l.1 (λ j e. absurd (cc e))
            (linked_of-head n m.words (k + 1) m.seats m.history b.linked);
        seen = seen_after _ m.history (Push s k) (seen_set m.seats m.history s nothing_seen in' (none_seen m.history) o.seen);
      })

  pub sound_back : (s k : ℕ) (why : Why) → s < m.layout.senders → k < number_count m.layout → Holds m.history s k
      → HasSeenCause why (private m s).seen
      → IsSound (happened (with_private (with_item m k 0) s (unlinked (private m s) k)) (Back s k why))
  sound_back s k why seat number holds sees =
      let b = by_keepers m o in
      let n : ℕ = number_count m.layout in
      let in' : s < length m.seats = omega (arith, o.has_seats, seat) in
      let mine = sender_from_holds m o s k holds in
      from_keepers (happened (with_private (with_item m k 0) s (unlinked (private m s) k)) (Back s k why)) (record {
        has_words = length-set m.words (item_place n k) 0 ∙ o.has_words;
        has_seats = length-set m.seats s _ ∙ o.has_seats;
        legal = legal_push m.layout m.history (Back s k why) o.legal (seat, number, (holds, o.seen s why sees));
        head_is = head_of-item n m.words 0 k number ∙ o.head_is ∙ sym (head_word_quiet m.history (Back s k why) (quiet refl refl refl refl) refl);
        rests = rests_quiet m.history (Back s k why) (quiet refl refl refl refl) refl o.rests;
        items_are =
            follow_give pending_bit 0 (item_place n) n m.words m.history (Back s k why) k Home (λ j e. omega (arith, e)) (omega (arith, o.has_words, number))
            (gives_back s k why) b.items_are;
        done_is = done_of-item n m.words 0 k number ∙ o.done_is ∙ ap (λ z. z % 2 ^ 64) (sym (ended_quiet m.history (Back s k why) refl));
        chains = simp growing (chains_of-item n m.words 0 k number _ _ _ _ _ _ o.chains);
        linked =
            linked_give n _ m.seats m.history (Back s k why) s k _ in' (gives_back s k why).0 mine (keeps_unlinked (private m s) k)
            (linked_of-item n m.words 0 k number m.seats m.history b.linked);
        seen = seen_after _ m.history (Back s k why) (seen_set m.seats m.history s _ in' (o.seen s) o.seen);
      })
