-- What a write to one word leaves in the others.
use Rattle.wq_core.proofs.Common.{◌≡◌, ℕ, ◌<◌, List, get_or, set, Option, arith, get_or-set_other, Event, pending_bit, link_place, item_place, done_place}
use Rattle.wq_core.proofs.Common.{head_place, Private, AreChained}
use Rattle.wq_core.proofs.Chains.{chained_set}
use Rattle.wq_core.proofs.Privates.{FollowKeepers, follow_set, AreLinked, linked_set}

-- what a write to one word leaves in the others
module _ (n : ℕ) (ws : List ℕ) (v : ℕ) where
  module _ (k : ℕ) (number : k < n) where
    pub head_of-item : get_or (set ws (item_place n k) v) head_place 0 ≡ get_or ws head_place 0
    head_of-item = get_or-set_other ws (item_place n k) head_place v 0 (λ e. omega (arith, e))

    pub done_of-item : get_or (set ws (item_place n k) v) (done_place n) 0 ≡ get_or ws (done_place n) 0
    done_of-item = get_or-set_other ws (item_place n k) (done_place n) v 0 (λ e. omega (arith, e, number))

    pub chains_of-item : (cursor : Option ℕ) (walked batch acc beg lst : List ℕ) → AreChained n ws cursor walked batch acc beg lst
        → AreChained n (set ws (item_place n k) v) cursor walked batch acc beg lst
    chains_of-item cursor walked batch acc beg lst = chained_set n ws cursor walked batch acc beg lst (item_place n k) v (λ j lt more e. omega (arith, e, lt))

    pub linked_of-item : (seats : List Private) (h : List Event) → AreLinked n ws seats h → AreLinked n (set ws (item_place n k) v) seats h
    linked_of-item seats h = linked_set n ws seats h (item_place n k) v (λ j lt e. omega (arith, e, lt))

  pub done_of-head : get_or (set ws head_place v) (done_place n) 0 ≡ get_or ws (done_place n) 0
  done_of-head = get_or-set_other ws head_place (done_place n) v 0 (λ e. omega (arith, e))

  pub items_of-head : (h : List Event) → FollowKeepers pending_bit 0 (item_place n) n ws h
      → FollowKeepers pending_bit 0 (item_place n) n (set ws head_place v) h
  items_of-head h = follow_set pending_bit 0 (item_place n) n ws h head_place v (λ j lt e. omega (arith, e))

  pub chains_of-head : (cursor : Option ℕ) (walked batch acc beg lst : List ℕ) → AreChained n ws cursor walked batch acc beg lst
      → AreChained n (set ws head_place v) cursor walked batch acc beg lst
  chains_of-head cursor walked batch acc beg lst = chained_set n ws cursor walked batch acc beg lst head_place v (λ j lt more e. omega (arith, e))

  pub linked_of-head : (seats : List Private) (h : List Event) → AreLinked n ws seats h → AreLinked n (set ws head_place v) seats h
  linked_of-head seats h = linked_set n ws seats h head_place v (λ j lt e. omega (arith, e))

  pub head_of-done : get_or (set ws (done_place n) v) head_place 0 ≡ get_or ws head_place 0
  head_of-done = get_or-set_other ws (done_place n) head_place v 0 (λ e. omega (arith, e))

  pub items_of-done : (h : List Event) → FollowKeepers pending_bit 0 (item_place n) n ws h
      → FollowKeepers pending_bit 0 (item_place n) n (set ws (done_place n) v) h
  items_of-done h = follow_set pending_bit 0 (item_place n) n ws h (done_place n) v (λ j lt e. omega (arith, e, lt))

  pub chains_of-done : (cursor : Option ℕ) (walked batch acc beg lst : List ℕ) → AreChained n ws cursor walked batch acc beg lst
      → AreChained n (set ws (done_place n) v) cursor walked batch acc beg lst
  chains_of-done cursor walked batch acc beg lst = chained_set n ws cursor walked batch acc beg lst (done_place n) v (λ j lt more e. omega (arith, e, lt))

  pub linked_of-done : (seats : List Private) (h : List Event) → AreLinked n ws seats h → AreLinked n (set ws (done_place n) v) seats h
  linked_of-done seats h = linked_set n ws seats h (done_place n) v (λ j lt e. omega (arith, e, lt))

  module _ (k : ℕ) (number : k < n) where
    pub head_of-link : get_or (set ws (link_place k) v) head_place 0 ≡ get_or ws head_place 0
    head_of-link = get_or-set_other ws (link_place k) head_place v 0 (λ e. omega (arith, e))

    pub done_of-link : get_or (set ws (link_place k) v) (done_place n) 0 ≡ get_or ws (done_place n) 0
    done_of-link = get_or-set_other ws (link_place k) (done_place n) v 0 (λ e. omega (arith, e, number))

    pub items_of-link : (h : List Event) → FollowKeepers pending_bit 0 (item_place n) n ws h
        → FollowKeepers pending_bit 0 (item_place n) n (set ws (link_place k) v) h
    items_of-link h = follow_set pending_bit 0 (item_place n) n ws h (link_place k) v (λ j lt e. omega (arith, e, number))
