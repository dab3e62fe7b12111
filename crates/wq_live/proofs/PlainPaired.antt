-- A pair of a queue without slots, call after call.
use Rattle.wq_live.proofs.Common.{◌≡◌, ℕ, [], ◌∷◌, sym, ap, subst, ◌∙◌, plain_view, ValueStanding, Learns, Bare, OwnerSeat, Sent, IsSame, owning, owner_view}
use Rattle.wq_live.proofs.Common.{sending_in, sender_view, sender_counts, Sends, IsLegal, OwnsSeat, AreSeated, TableId, KnownPair, pair_owner, pair_sender}
use Rattle.wq_words.specs.Seen.{owner_seat}
use Rattle.wq_table.specs.declared.table.Part.{Part}
use Rattle.wq_table.specs.Chair.{IsSender}
use Rattle.wq_table.specs.Slots.{ValueView}
use Rattle.wq_table.specs.SlotChairs.{part_in}
use Rattle.wq_table.specs.Places.{chosen}
use Rattle.wq_calls.specs.Pairs.{seats_view}
use Rattle.wq_live.specs.declared.pair.Pair.TheInside.{Inside}
use Rattle.wq_live.specs.Pair.{IsPair}
use Rattle.wq_live.specs.Alone.{SendsAlone, OwnsAlone}
use Rattle.wq_calls.proofs.ValueSeats.{learns_slots}
use Rattle.wq_calls.proofs.InOneSeat.{owner_acts, sender_acts}

module _ (s : Inside) (pair : IsPair s) where
  pub pair_after : (at : ℕ) (t : Inside) → Learns at s.seat.chair t.seat.chair → AreSeated t.seat t.sent → IsPair t
  pair_after at t l seated = record { seated = seated; bare = learns_slots at s.seat.chair t.seat.chair l ∙ pair.bare }

  -- the owner made steps
  pub pair_acts : (seat : OwnerSeat Bare) → OwnsSeat seat → IsSame (owner_view (owning s.seat)) (owner_view (owning seat)) → Learns 0 s.seat.chair seat.chair
      → IsPair (record { seat = seat; sent = s.sent })
  pair_acts seat owns same l = pair_after 0 (record { seat = seat; sent = s.sent }) l (owner_acts s.seat seat s.sent pair.seated owns same l)

  -- the sender queued
  pub pair_queues : (q : ValueStanding Bare) (u : Sent) → Learns 1 s.seat.chair q → Sends (sending_in 1 q u) → u.layout ≡ s.sent.layout
      → q.hand ≡ s.seat.chair.hand → IsPair (record { seat = record s.seat { chair = q }; sent = u })
  pair_queues q u l sends layout hand = pair_after 1 (record { seat = record s.seat { chair = q }; sent = u }) l
      (sender_acts s.seat q s.sent pair.seated l u sends layout hand)

-- the two part, and this is the chair of the owner, which keeps what is in hand
module _ (s : Inside) (pair : IsPair s) (it : ValueStanding Bare)
    (is : (it.queue ≡ s.seat.chair.queue) × (it.first ≡ s.seat.chair.first) × (it.others ≡ []) × (it.hand ≡ s.seat.chair.hand)) where
  pub owner_parts : OwnsAlone (record { seat = record s.seat { chair = it } })
  owner_parts = let o = pair.seated.owns in record {
    owns = subst (λ (x : ValueStanding Bare). OwnsSeat (record s.seat { chair = x }))
        (λ i. record { queue = sym is.0 i; first = sym is.1 i; others = it.others; hand = sym is.3 i }) record {
          queue = record {
            layout_is = o.queue.layout_is;
            number_is = o.queue.number_is;
            stands = o.queue.stands;
            has_row = o.queue.has_row;
            running_is = o.queue.running_is;
            phase_is = o.queue.phase_is;
            counts_are = o.queue.counts_are;
          };
          slots = record { some = o.slots.some; none = o.slots.none };
        };
    alone = is.2;
    bare = ap (λ (q : TableId). q.slots) is.0 ∙ pair.bare;
  }

  pub owner_parts_view : (now : KnownPair) → seats_view s.seat s.sent ≡ now → owner_view (owning (record s.seat { chair = it })) ≡ pair_owner now
  owner_parts_view now view =
      (λ i. record { queue = is.0 i; layout = s.seat.layout; number = owner_seat; seen = (is.1 i).part.seen }) ∙ ap pair_owner view

-- and this is the chair of the sender, whose part was the second
module _ (s : Inside) (pair : IsPair s) (it : ValueStanding Bare)
    (is : (it.queue ≡ s.seat.chair.queue) × (it.first ∷ [] ≡ s.seat.chair.others) × (it.others ≡ []) × (it.hand ≡ [])) where
  part_is : it.first.part ≡ part_in 1 s.seat.chair
  part_is = ap (λ (xs : ValueView Bare). chosen 1 s.seat.chair.first.part (plain_view xs)) is.1

  pub sender_parts : SendsAlone (record { chair = it; sent = s.sent })
  sender_parts = let o = pair.seated.sends in record {
    sends = record {
      layout_is = ap (λ (p : Part). p.layout) part_is ∙ o.layout_is;
      number_is = ap (λ (p : Part). p.seat) part_is ∙ o.number_is;
      low = o.low;
      stage = subst (λ (p : Part). IsSender p.stage) (sym part_is) o.stage;
      legal = subst (λ (p : Part). IsLegal s.sent.layout p.seen) (sym part_is) o.legal;
      counts_are = o.counts_are ∙ ap (λ (p : Part). sender_counts s.sent.number p.seen) (sym part_is);
    };
    alone = is.2;
    bare = ap (λ (q : TableId). q.slots) is.0 ∙ pair.bare;
    empty = is.3;
  }

  pub sender_parts_view : (now : KnownPair) → seats_view s.seat s.sent ≡ now → sender_view (sending_in 0 it s.sent) ≡ pair_sender now
  sender_parts_view now view = (λ i. record {
    queue = is.0 i;
    layout = pair.seated.one_layout i;
    number = s.sent.number;
    seen = (ap (λ (p : Part). p.seen) part_is ∙ pair.seated.one_seen) i;
  }) ∙ ap pair_sender view
