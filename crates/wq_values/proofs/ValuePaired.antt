-- A pair of a queue whose items bring values, call after call.
use Rattle.wq_values.proofs.Common.{◌≡◌, ℕ, ◌<◌, List, [], ◌∷◌, Option, refl, sym, ap, ◌∙◌, subst, IsPrefix, TableId, Layout, Event, accepted}
use Rattle.wq_values.proofs.Common.{AreBrought, ValuePart, all_see, plain_view, ValueStanding, part_in, Learns, learns_right, OwnerSeat, Sent, Known}
use Rattle.wq_values.proofs.Common.{IsSame, Sees, owning, owner_view, sending_in, sender_view, Sends, OwnsSeat, OwnsValues, SendsValues, KnownWith}
use Rattle.wq_values.proofs.Common.{Learnt, owner_with, sender_with, AreKnown, pair_owner, AreSeated, KnownValuePair, owner_of}
use Rattle.wq_table.specs.Slots.{ValueView}
use Rattle.wq_table.specs.declared.table.Part.{Part}
use Rattle.wq_table.specs.SlotSteps.{AllTold}
use Rattle.wq_table.specs.SlotChairs.{ValueJoined}
use Rattle.wq_table.proofs.Places.{seeing_seen}
use Rattle.wq_table.proofs.ValueRule.{told_all}
use Rattle.wq_values.specs.declared.value_owner.ValueOwner.TheInside as owner
use Rattle.wq_values.specs.declared.value_sender.ValueSender.TheInside as sender
use Rattle.wq_values.specs.declared.value_pair.ValuePair.TheInside.{Inside}
use Rattle.wq_calls.specs.KnownWith.{handed_in}
use Rattle.wq_calls.specs.Pairs.{pair_sender, seats_view}
use Rattle.wq_values.specs.ValuePairs.{sender_of, value_pair_view, IsValuePair}
use Rattle.wq_calls.proofs.ValueSeats.{known_is, still_some, owner_learnt}
use Rattle.wq_calls.proofs.HandedOver.{met_handed}
use Rattle.wq_calls.proofs.InOneSeat.{sender_is, owner_acts, sender_sees, sender_acts, joined_more, joins, owner_joins, sender_joins, low_joins}

module _ {V : Type 0} (s : OwnerSeat V) (sent : Sent) (pair : AreSeated s sent) where
  one_layout : (part_in 1 s.chair).layout ≡ s.chair.first.part.layout
  one_layout = pair.sends.layout_is ∙ (pair.one_layout ∙ sym pair.owns.queue.layout_is)

  -- what was brought of what the sender has seen was of what the owner has
  owner_brought : (brs : List (Option V)) → AreBrought (part_in 1 s.chair).layout.items (accepted (part_in 1 s.chair).seen) brs
      → AreBrought s.chair.first.part.layout.items (accepted s.chair.first.part.seen) brs
  owner_brought brs are = subst (λ (z : Layout × List Event). AreBrought z.0.items (accepted z.1) brs) (λ i. (one_layout i, pair.one_seen i)) are

module _ {V : Type 0} (s : Inside V) (pair : IsValuePair s) where
  pub values_after : (at : ℕ) (t : Inside V) → Learns at s.seat.chair t.seat.chair → AreSeated t.seat t.sent → AreKnown t.seat.chair → IsValuePair t
  values_after at t l seated known = record {
    seated = seated;
    slots = still_some at s.seat.chair t.seat.chair l pair.slots;
    known = known;
    told = subst (λ (brs : List (Option V)). AllTold brs t.seat.chair.others) (sym l.told.0) l.told.2;
  }

  -- the owner made steps
  module _ (t : OwnerSeat V) (owns : OwnsSeat t) (same : IsSame (owner_view (owning s.seat)) (owner_view (owning t))) (l : Learns 0 s.seat.chair t.chair) where
    pub values_act : IsValuePair (record { seat = t; sent = s.sent })
    values_act = values_after 0 (record { seat = t; sent = s.sent }) l (owner_acts s.seat t s.sent pair.seated owns same l)
        (learns_right 0 s.seat.chair t.chair l refl pair.slots)

    module _ (now : KnownValuePair V) (view : value_pair_view s ≡ now) where
      pub others_see : Sees [] 0 (pair_sender now.known) (pair_sender (seats_view t s.sent))
      others_see = sender_sees s.seat t s.sent pair.seated owns same l now.known (ap (λ (p : KnownValuePair V). p.known) view)

      pub acts_learnt : Learnt (owner_of now) (owner_with t)
      acts_learnt = owner_learnt 0 s.seat t l pair.known (owner_of now) (ap owner_of view)

  -- the sender queued
  module _ (q : ValueStanding V) (u : Sent) (l : Learns 1 s.seat.chair q) (sends : Sends (sending_in 1 q u)) (layout : u.layout ≡ s.sent.layout)
      (hand : q.hand ≡ s.seat.chair.hand) where
    pub queued_seat : AreSeated (record s.seat { chair = q }) u
    queued_seat = sender_acts s.seat q s.sent pair.seated l u sends layout hand

    pub values_queue : IsValuePair (record { seat = record s.seat { chair = q }; sent = u })
    values_queue = values_after 1 (record { seat = record s.seat { chair = q }; sent = u }) l queued_seat
        (owner_brought (record s.seat { chair = q }) u queued_seat q.first.brought
        (subst (λ (brs : List (Option V)). AreBrought (part_in 1 q).layout.items (accepted (part_in 1 q).seen) brs) (sym l.told.0) (l.right pair.slots)))

-- an owner and a sender, each alone, that become a pair
module _ {V : Type 0} (o : owner.Inside V) (s : sender.Inside V) (both : ValueStanding V) (owns : OwnsValues o) (sends : SendsValues s)
    (now there : KnownWith V) (view : owner_with o.seat ≡ now) (its_view : sender_with 0 s.chair s.sent ≡ there)
    (one : there.known.queue ≡ now.known.queue) (joined : ValueJoined o.seat.chair s.chair both) where
  abbrev whole : Inside V
  whole = record { seat = record o.seat { chair = both }; sent = s.sent }

  owner_known : owner_view (owning o.seat) ≡ now.known
  owner_known = known_is o.seat now view

  sender_known : sender_view (sending_in 0 s.chair s.sent) ≡ there.known
  sender_known = ap (λ (k : KnownWith V). k.known) its_view

  known : AreKnown both
  known = subst (λ (t : ValuePart V). AreBrought t.part.layout.items (accepted t.part.seen) t.brought) (sym joined.first_is)
      (subst (λ (l : Layout). AreBrought l.items (accepted joined.machine.history) joined.brought) (sym joined.this_fits.fits.layout_is)
      (joined.right owns.slots))

  pub values_join : IsValuePair whole
  values_join = let h = joined.machine.history in let brs = joined.brought in record {
    seated = joins o.seat s.chair both s.sent owns.owns sends.sends sends.alone now.known there.known owner_known sender_known one joined;
    slots = subst (λ (q : TableId). 0 < q.slots) (sym joined.queue_is) owns.slots;
    known = known;
    told = subst (λ (z : List (Option V) × ValueView V). AllTold z.0 z.1)
        (λ i. (sym (ap (λ (t : ValuePart V). t.brought) joined.first_is) i, sym joined.others_are i))
        (told_all h brs (all_see h (s.chair.first.part ∷ plain_view s.chair.others)) joined.as_many
        (seeing_seen h (s.chair.first.part ∷ plain_view s.chair.others)));
  }

  pub owner_join_sees : Sees [] 0 now.known (pair_owner (value_pair_view whole).known)
  owner_join_sees = owner_joins o.seat s.chair both s.sent owns.owns sends.sends sends.alone now.known there.known owner_known sender_known one joined

  pub sender_join_sees : Sees [] 0 there.known (pair_sender (value_pair_view whole).known)
  sender_join_sees = sender_joins o.seat s.chair both s.sent owns.owns sends.sends sends.alone now.known there.known owner_known sender_known one joined

  pub low_join : s.sent.number < o.seat.layout.senders
  low_join = low_joins o.seat s.chair both s.sent owns.owns sends.sends sends.alone now.known there.known owner_known sender_known one joined

  pub owner_join_learnt : Learnt now (owner_of (value_pair_view whole))
  owner_join_learnt = subst (λ (k : KnownWith V). Learnt k (owner_of (value_pair_view whole))) view record {
    more = joined_more o.seat.chair s.chair both joined;
    was_whole = owns.known.as_many;
    as_many = known.as_many;
  }

  pub sender_join_learnt : Learnt there (sender_of (value_pair_view whole))
  sender_join_learnt = subst (λ (k : KnownWith V). Learnt k (sender_of (value_pair_view whole))) its_view record {
    more = subst (λ (t : ValuePart V). IsPrefix s.chair.first.brought t.brought) (sym joined.first_is) joined.that_knows.0.begins;
    was_whole = sends.known.as_many;
    as_many = known.as_many;
  }

  pub join_handed : handed_in (owner_of (value_pair_view whole)) ≡ handed_in now
  join_handed = met_handed now (owner_of (value_pair_view whole)) (sym (ap (λ (k : Known). k.number) owner_known)) owner_join_sees owner_join_learnt

-- a pair that becomes two again: the owner, with the first part of the chair and all slots
module _ {V : Type 0} (s : Inside V) (pair : IsValuePair s) (mine : ValueStanding V)
    (first : (mine.queue ≡ s.seat.chair.queue) × (mine.first ≡ s.seat.chair.first) × (mine.others ≡ []) × (mine.hand ≡ s.seat.chair.hand)) where
  mine_is : mine ≡ record s.seat.chair { others = [] }
  mine_is = λ i. record { queue = first.0 i; first = first.1 i; others = first.2 i; hand = first.3 i }

  pub split_owner : OwnsValues (record { seat = record s.seat { chair = mine } })
  split_owner = let o = pair.seated.owns in
      subst (λ (it : ValueStanding V). OwnsValues (record { seat = record s.seat { chair = it } })) (sym mine_is) record {
        owns = record {
          queue = record {
            layout_is = o.queue.layout_is;
            number_is = o.queue.number_is;
            stands = o.queue.stands;
            has_row = record { stage_is = o.queue.has_row.stage_is; row_is = o.queue.has_row.row_is };
            running_is = o.queue.running_is;
            phase_is = o.queue.phase_is;
            counts_are = o.queue.counts_are;
          };
          slots = record { some = o.slots.some; none = o.slots.none };
        };
        alone = refl;
        slots = pair.slots;
        known = pair.known;
      }

  pub split_owner_is : (now : KnownValuePair V) → value_pair_view s ≡ now → owner_with (record s.seat { chair = mine }) ≡ owner_of now
  split_owner_is now view = ap (λ (it : ValueStanding V). owner_with (record s.seat { chair = it })) mine_is ∙ ap owner_of view

-- and the sender, with the other part
module _ {V : Type 0} (s : Inside V) (pair : IsValuePair s) (theirs : ValueStanding V)
    (second : (theirs.queue ≡ s.seat.chair.queue) × (theirs.first ∷ [] ≡ s.seat.chair.others) × (theirs.others ≡ []) × (theirs.hand ≡ [])) where
  their_part : theirs.first.part ≡ part_in 1 s.seat.chair
  their_part = ap (λ (ts : ValueView V). part_in 1 (record s.seat.chair { others = ts })) second.1

  their_sending : sending_in 0 theirs s.sent ≡ sending_in 1 s.seat.chair s.sent
  their_sending = λ i. record {
    chair = record { queue = second.0 i; part = their_part i; others = [] };
    layout = s.sent.layout;
    number = s.sent.number;
    counts = s.sent.counts;
  }

  their_brought : theirs.first.brought ≡ s.seat.chair.first.brought
  their_brought = (subst (AllTold s.seat.chair.first.brought) (sym second.1) pair.told).0

  their_known : AreKnown theirs
  their_known = let layout = ap (λ (p : Part). p.layout) their_part ∙ one_layout s.seat s.sent pair.seated in
      let seen = ap (λ (p : Part). p.seen) their_part ∙ pair.seated.one_seen in
      subst (λ (z : Layout × List Event × List (Option V)). AreBrought z.0.items (accepted z.1) z.2)
      (λ i. (sym layout i, sym seen i, sym their_brought i)) pair.known

  pub split_sender : SendsValues (record { chair = theirs; sent = s.sent })
  split_sender = record {
    sends = subst Sends (sym their_sending) pair.seated.sends;
    alone = second.2;
    slots = subst (λ (q : TableId). 0 < q.slots) (sym second.0) pair.slots;
    empty = second.3;
    known = their_known;
  }

  pub split_sender_is : (now : KnownValuePair V) → value_pair_view s ≡ now → sender_with 0 theirs s.sent ≡ sender_of now
  split_sender_is now view = let known = ap sender_view their_sending ∙ sender_is s.seat s.sent pair.seated in
      let is : sender_with 0 theirs s.sent ≡ sender_of (value_pair_view s) = λ i. record { known = known i; brought = their_brought i } in
      is ∙ ap sender_of view
