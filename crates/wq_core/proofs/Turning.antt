-- A number that the owner walked or that waits in its batch: nobody else follows or writes its link.
use Rattle.wq_core.proofs.Common.{TakesPushes, subst, ◌≡◌, ◌≢◌, ℕ, ◌+◌, ◌<◌, ◌≤◌, List, [], ◌++◌, get_or}
use Rattle.wq_core.proofs.Common.{set, Option, Some, sym, ap, ◌∙◌, arith, inl, inr, ⊎_elim, length-set, reverse}
use Rattle.wq_core.proofs.Common.{get_or-set_other, slice_get-get_or, cases_eq, number_count, accepted, begun, listed, Sender}
use Rattle.wq_core.proofs.Common.{keeper, Event, kept, Private, link_place, Machine, with_link, StandsIn, AreChained, IsSound, reverse_aux}
use Rattle.wq_words.proofs.Times.{times, times-append, times-reverse_aux, times_from_Contains, Contains_from_times}
use Rattle.wq_words.proofs.Accepted.{accepted_number, queue_once}
use Rattle.wq_core.proofs.Chains.{chain_set}
use Rattle.wq_core.proofs.Privates.{AreLinked}
use Rattle.wq_core.proofs.Writes.{head_of-link, done_of-link, items_of-link}
use Rattle.wq_core.proofs.KeptSound.{away_from_sender, by_keepers, from_keepers}

pub times_stands : (walked batch : List ℕ) (k : ℕ) → StandsIn walked batch k → 0 < times k walked + times k batch
times_stands walked batch k = ⊎_elim (λ there. omega (arith, times_from_Contains k walked there)) (λ there. omega (arith, times_from_Contains k batch there))

-- its link is that of no number of the two chains
pub chained_turn : (n : ℕ) (ws : List ℕ) (cursor : Option ℕ) (walked batch acc beg lst : List ℕ) (k v : ℕ) → 0 < times k walked + times k batch
    → times k acc ≤ times k beg + 1
    → AreChained n ws cursor walked batch acc beg lst → AreChained n (set ws (link_place k) v) cursor walked batch acc beg lst
chained_turn n ws cursor walked batch acc beg lst k v some once a =
    let count : times k acc ≡ times k beg + (times k batch + (times k a.remaining + times k walked)) + times k lst =
    omega (
      arith,
      ap (times k) a.order,
      times-append k (beg ++ (batch ++ reverse_aux a.remaining walked)) (reverse lst),
      times-append k beg (batch ++ reverse_aux a.remaining walked),
      times-append k batch (reverse_aux a.remaining walked),
      times-reverse_aux k a.remaining walked,
      times-reverse_aux k lst [],
    ) in
    let away : (ks : List ℕ) → times k ks ≡ 0 → (j : ℕ) → j < n → 0 < times j ks → link_place k ≢ link_place j = λ ks none j lt in' e.
    (let same : k ≡ j = omega (arith, e) in omega (arith, ap (λ i. times i ks) same, none, in')) in
    record {
      remaining = a.remaining;
      list_chain = chain_set n ws (link_place k) v _ lst (away lst (omega (arith, count, some, once))) a.list_chain;
      walk_chain = chain_set n ws (link_place k) v _ a.remaining (away a.remaining (omega (arith, count, some, once))) a.walk_chain;
      order = a.order;
      none_walked = a.none_walked;
    }

-- and no sender keeps it
linked_turn : (n : ℕ) (words : List ℕ) (seats : List Private) (h : List Event) (k v : ℕ) → ((s : ℕ) → keeper h k ≡ Sender s → ⊥)
    → AreLinked n words seats h → AreLinked n (set words (link_place k) v) seats h
linked_turn n words seats h k v free old s j is =
    let o = old s j is in
    let ne : link_place j ≢ link_place k = λ e. (let same : j ≡ k = omega (arith, e) in free s (ap (keeper h) (sym same) ∙ o.1)) in
    let same : get_or (set words (link_place k) v) (link_place j) 0 ≡ get_or words (link_place j) 0 =
    get_or-set_other words (link_place k) (link_place j) v 0 ne in
    (o.0, o.1, o.2 ∙ ap Some (sym same), subst TakesPushes (sym same) o.3)

module _ (m : Machine) (o : IsSound m) (k : ℕ) where
  count_of :
      times k (accepted m.history)
      ≡ times k (begun m.history) + (times k m.batch + (times k o.chains.remaining + times k m.walked)) + times k (listed m.history)
  count_of =
      let a = o.chains in
      omega (
        arith,
        ap (times k) a.order,
        times-append k (begun m.history ++ (m.batch ++ reverse_aux a.remaining m.walked)) (reverse (listed m.history)),
        times-append k (begun m.history) (m.batch ++ reverse_aux a.remaining m.walked),
        times-append k m.batch (reverse_aux a.remaining m.walked),
        times-reverse_aux k a.remaining m.walked,
        times-reverse_aux k (listed m.history) [],
      )

  accepted_once : times k (accepted m.history) ≤ times k (begun m.history) + 1
  accepted_once = omega (arith, (kept m.layout m.history o.legal 0 k).2, queue_once (keeper m.history k))

  -- what the owner walked, and its batch, have each number at most once
  pub stands_once : times k m.walked + times k m.batch ≤ 1
  stands_once = omega (arith, count_of, accepted_once)

module _ (m : Machine) (o : IsSound m) (k : ℕ) (stands : StandsIn m.walked m.batch k) where
  -- it was accepted and has not begun as often
  pub stands_waits : times k (begun m.history) < times k (accepted m.history)
  stands_waits = omega (arith, count_of m o k, times_stands m.walked m.batch k stands)

  pub stands_number : k < number_count m.layout
  stands_number =
      let there = Contains_from_times k (accepted m.history) (omega (arith, stands_waits)) in
      accepted_number m.layout m.history o.legal there.0 k (slice_get-get_or (accepted m.history) there.0 k there.1 ∙ ap Some there.2)

  pub no_senders : (s : ℕ) → keeper m.history k ≡ Sender s → ⊥
  no_senders s mine = omega (arith, away_from_sender m o s k mine, stands_waits)

  -- any link may be stored
  pub sound_turn : (v : ℕ) → k < number_count m.layout → IsSound (with_link m k v)
  sound_turn v number =
      let b = by_keepers m o in
      let n : ℕ = number_count m.layout in
      from_keepers (with_link m k v) (record {
        has_words = length-set m.words (link_place k) v ∙ o.has_words;
        has_seats = o.has_seats;
        legal = o.legal;
        head_is = head_of-link n m.words v k number ∙ o.head_is;
        rests = o.rests;
        items_are = items_of-link n m.words v k number m.history b.items_are;
        done_is = done_of-link n m.words v k number ∙ o.done_is;
        chains = chained_turn n m.words m.cursor m.walked m.batch _ _ _ k v (times_stands m.walked m.batch k stands) (accepted_once m o k) o.chains;
        linked = linked_turn n m.words m.seats m.history k v no_senders b.linked;
        seen = o.seen;
      })

-- a number stands there where it is counted there
pub stands_times : (walked batch : List ℕ) (k : ℕ) → 0 < times k walked + times k batch → StandsIn walked batch k
stands_times walked batch k some = elim (cases_eq (times k walked) 0) [
  | inl none ↦ inr (Contains_from_times k batch (omega (arith, some, none)))
  | inr more ↦ inl (Contains_from_times k walked (omega (arith, more)))
]
