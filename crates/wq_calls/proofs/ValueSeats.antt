-- Seats that made steps, and what they know then of what was brought.
use Rattle.wq_calls.proofs.Common.{◌≡◌, ℕ, ◌<◌, [], sym, ap, subst, TableId, plain_view, ValueStanding, standing_of, Learns}
use Rattle.wq_calls.proofs.Common.{learns_more, OwnerSeat, owning, owner_view, KnownWith, Learnt, owner_with}
use Rattle.wq_calls.proofs.Common.{AreKnown}
use Rattle.wq_table.proofs.Beside.{alone_follow}
use Rattle.wq_table.proofs.Learns.{learns_many}
use Rattle.wq_table.proofs.SlotTold.{none_plain}

module _ {V : Type 0} where
  pub learns_alone : (a b : ValueStanding V) → Learns 0 a b → a.others ≡ [] → b.others ≡ []
  learns_alone a b l none = none_plain b.others (alone_follow (standing_of a) (standing_of b) l.follow (ap plain_view none))

  pub learns_slots : (at : ℕ) (a b : ValueStanding V) → Learns at a b → b.queue.slots ≡ a.queue.slots
  learns_slots at a b l = ap (λ (q : TableId). q.slots) l.follow.queue_is

  pub still_some : (at : ℕ) (a b : ValueStanding V) → Learns at a b → 0 < a.queue.slots → 0 < b.queue.slots
  still_some at a b l some = subst (λ (n : ℕ). 0 < n) (sym (learns_slots at a b l)) some

module _ {V : Type 0} where
  pub known_is : (s : OwnerSeat V) (now : KnownWith V) → owner_with s ≡ now → owner_view (owning s) ≡ now.known
  known_is s now view = ap (λ (k : KnownWith V). k.known) view

  -- an owner learns by its own steps, and in a pair by those of the sender
  pub owner_learnt : (at : ℕ) (s t : OwnerSeat V) → Learns at s.chair t.chair → AreKnown s.chair → (now : KnownWith V) → owner_with s ≡ now
      → Learnt now (owner_with t)
  owner_learnt at s t l known now view = subst (λ (k : KnownWith V). Learnt k (owner_with t)) view record {
    more = learns_more at s.chair t.chair l;
    was_whole = known.as_many;
    as_many = learns_many at s.chair t.chair l;
  }
