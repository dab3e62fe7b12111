-- The invariant, said by the keepers of the numbers, and an event that moves none of them.
use Rattle.wq_core.proofs.Common.{◌≡◌, ◌≢◌, ℕ, ◌+◌, ◌%◌, ◌^◌, ◌<◌, true, false, if◌then◌else◌, nat_lt, List, [], length, None, refl}
use Rattle.wq_core.proofs.Common.{sym, ap, ◌∙◌, arith, eq-eqb, lt-ltb, le-ltb, Layout, Event, number_count, wakes, accepted, begun}
use Rattle.wq_core.proofs.Common.{ended, accepted_by, begun_by, ended_by, pending, Holds, IsPending, listed_after, listed, IsAllowed, IsLegal, Keeper, Home}
use Rattle.wq_core.proofs.Common.{Sender, keeper_after, keeper, growing, legal_push, pending_bit, kept, home_from_bit}
use Rattle.wq_core.proofs.Common.{sender_from_bit, item_place, word_count, Machine, head, item_word, done_word, happened, head_word_of, AreChained, IsSound}
use Rattle.wq_words.proofs.Times.{times}
use Rattle.wq_core.proofs.Privates.{FollowKeepers, follow_quiet, AreLinked, linked_quiet, AreSeen, seen_after}
use Rattle.wq_core.proofs.Heads.{LeavesHead, head_word_quiet, rests_quiet, ended_quiet}

-- the PENDING bit as a word, by the history and by the keeper
bit_word : (sets clears : ℕ) (x : Keeper) → sets ≡ clears + pending_bit x → (if nat_lt clears sets then 1 else 0) ≡ pending_bit x
bit_word sets clears Home e = (let is : nat_lt clears sets ≡ false = le-ltb clears sets (omega (arith, e)) in rw is refl)
bit_word sets clears _ e = (let is : nat_lt clears sets ≡ true = lt-ltb clears sets (omega (arith, e)) in rw is refl)

pub pending_word : (layout : Layout) (h : List Event) → IsLegal layout h → (k : ℕ) → (if pending h k then 1 else 0) ≡ pending_bit (keeper h k)
pending_word layout h legal k = bit_word _ _ (keeper h k) (kept layout h legal 0 k).1

pub keeper_from_holds : (layout : Layout) (h : List Event) → IsLegal layout h → (s k : ℕ) → Holds h s k → keeper h k ≡ Sender s
keeper_from_holds layout h legal s k holds = sender_from_bit s (keeper h k) (omega (arith, (kept layout h legal s k).0, holds))

pub holds_from_keeper : (layout : Layout) (h : List Event) → IsLegal layout h → (s k : ℕ) → keeper h k ≡ Sender s → Holds h s k
holds_from_keeper layout h legal s k mine = (let t = (kept layout h legal s k).0 in omega (arith, rw (mine, eq-eqb s s refl) at t))

-- the invariant, said by the keepers of the numbers
pub record IsKeptSound (m : Machine) : Type 0 where
  pub has_words : length m.words ≡ word_count (number_count m.layout)
  pub has_seats : length m.seats ≡ m.layout.senders
  pub legal : IsLegal m.layout m.history
  pub head_is : head m ≡ head_word_of m.history
  pub rests : wakes m.history ≡ true → listed m.history ≡ []
  pub items_are : FollowKeepers pending_bit 0 (item_place (number_count m.layout)) (number_count m.layout) m.words m.history
  pub done_is : done_word m ≡ length (ended m.history) % 2 ^ 64
  pub chains : AreChained (number_count m.layout) m.words m.cursor m.walked m.batch (accepted m.history) (begun m.history) (listed m.history)
  pub linked : AreLinked (number_count m.layout) m.words m.seats m.history
  pub seen : AreSeen m.seats m.history

pub by_keepers : (m : Machine) → IsSound m → IsKeptSound m
by_keepers m o = record {
  has_words = o.has_words;
  has_seats = o.has_seats;
  legal = o.legal;
  head_is = o.head_is;
  rests = o.rests;
  items_are = λ k lt. o.items_are k lt ∙ pending_word m.layout m.history o.legal k;
  done_is = o.done_is;
  chains = o.chains;
  linked = λ s k is. (let l = o.linked s k is in (l.0, keeper_from_holds m.layout m.history o.legal s k l.1, l.2, l.3));
  seen = o.seen;
}

pub from_keepers : (m : Machine) → IsKeptSound m → IsSound m
from_keepers m o = record {
  has_words = o.has_words;
  has_seats = o.has_seats;
  legal = o.legal;
  head_is = o.head_is;
  rests = o.rests;
  items_are = λ k lt. o.items_are k lt ∙ sym (pending_word m.layout m.history o.legal k);
  done_is = o.done_is;
  chains = o.chains;
  linked = λ s k is. (let l = o.linked s k is in (l.0, holds_from_keeper m.layout m.history o.legal s k l.1, l.2, l.3));
  seen = o.seen;
}

module _ (m : Machine) (o : IsSound m) where
  -- who keeps a number, by what is known of its item word or its holder
  pub home_from_clear : (k : ℕ) → k < number_count m.layout → item_word m k ≡ 0 → keeper m.history k ≡ Home
  home_from_clear k lt clear = home_from_bit (keeper m.history k) (sym ((by_keepers m o).items_are k lt) ∙ clear)

  pub idle_from_home : (k : ℕ) → keeper m.history k ≡ Home → ¬ IsPending m.history k
  idle_from_home k home is =
      let t = (kept m.layout m.history o.legal 0 k).1 in
      omega (arith, rw home at t, is)

  pub pending_from_set : (k : ℕ) → k < number_count m.layout → item_word m k ≢ 0 → IsPending m.history k
  pending_from_set k lt set' =
      let t = (kept m.layout m.history o.legal 0 k).1 in
      omega (arith, t, (by_keepers m o).items_are k lt, set')

  pub sender_from_holds : (s k : ℕ) → Holds m.history s k → keeper m.history k ≡ Sender s
  sender_from_holds s k holds = keeper_from_holds m.layout m.history o.legal s k holds

  -- a number that a sender keeps stands in no chain
  pub away_from_sender : (s k : ℕ) → keeper m.history k ≡ Sender s → times k (accepted m.history) ≡ times k (begun m.history)
  away_from_sender s k mine =
      let t = (kept m.layout m.history o.legal s k).2 in
      omega (arith, rw mine at t)

  -- an event that changes nothing but the history, and moves no number
  pub sound_quiet : (e : Event) → IsAllowed m.layout m.history e → ((j : ℕ) (x : Keeper) → keeper_after j x e ≡ x) → accepted_by e ≡ None
      → begun_by e ≡ None → ended_by e ≡ None → ((ks : List ℕ) → listed_after ks e ≡ ks) → LeavesHead e
      → IsSound (happened m e)
  sound_quiet e allowed spares no_accept no_begin no_end no_list quiet =
      let b = by_keepers m o in
      from_keepers (happened m e) (record {
        has_words = o.has_words;
        has_seats = o.has_seats;
        legal = legal_push m.layout m.history e o.legal allowed;
        head_is = o.head_is ∙ sym (head_word_quiet m.history e quiet (no_list (listed m.history)));
        rests = rests_quiet m.history e quiet (no_list (listed m.history)) o.rests;
        items_are = follow_quiet pending_bit 0 (item_place (number_count m.layout)) _ m.words m.history e (λ j x. ap pending_bit (spares j x)) b.items_are;
        done_is = o.done_is ∙ ap (λ z. z % 2 ^ 64) (sym (ended_quiet m.history e no_end));
        chains = simp (growing, no_accept, no_begin, no_list) o.chains;
        linked = linked_quiet _ m.words m.seats m.history e (λ j s. spares j (Sender s)) b.linked;
        seen = seen_after m.seats m.history e o.seen;
      })
