-- An owner and a sender in one seat: for the one, a step of the other is a meeting.
use Rattle.wq_calls.proofs.Common.{◌≡◌, ◌<◌, [], ◌∷◌, refl, sym, ap, ◌∙◌, subst, IsPrefix, Layout, Part, ValuePart, see, all_see, Standing, seeing}
use Rattle.wq_calls.proofs.Common.{plain_view, ValueStanding, standing_of, part_in, Learns, learns_meet, learns_more, plain_telling, OwnerSeat, Sent}
use Rattle.wq_calls.proofs.Common.{Known, IsSame, Sees, Owning, owning, alone_at, sending_in, sender_view, owner_view, Sends, OwnsQueue, OwnsSeat}
use Rattle.wq_calls.proofs.Common.{KnownPair, pair_owner, AreSeated}
use Rattle.wq_table.specs.Places.{chosen}
use Rattle.wq_table.specs.SlotChairs.{ValueMeet, ValueJoined}
use Rattle.wq_table.specs.Beside.{OthersFollow}
use Rattle.wq_table.proofs.Beside.{Saw, second_saw, still_two, first_saw, two_still}
use Rattle.wq_calls.specs.Pairs.{pair_sender, seats_view}
use Rattle.wq_calls.proofs.Meeting.{met_plain, met_slots, meet_executes, meet_owner_sees, meet_owner_layout}
use Rattle.wq_calls.proofs.Sends.{meet_sends, meet_sees}

-- the sender's side is what the two are seen as
pub sender_is : {V : Type 0} (s : OwnerSeat V) (sent : Sent) → AreSeated s sent → sender_view (sending_in 1 s.chair sent) ≡ pair_sender (seats_view s sent)
sender_is s sent pair = λ i. record { queue = s.chair.queue; layout = pair.one_layout i; number = sent.number; seen = pair.one_seen i }

-- the owner made steps, and the two have another seat of it
module _ {V : Type 0} (s t : OwnerSeat V) (sent : Sent) (pair : AreSeated s sent) (owns : OwnsSeat t)
    (same : IsSame (owner_view (owning s)) (owner_view (owning t))) (l : Learns 0 s.chair t.chair) where
  f : OthersFollow 0 (standing_of s.chair) (standing_of t.chair)
  f = l.follow

  saw_second : Saw f.machine (part_in 1 s.chair) (part_in 1 t.chair)
  saw_second = second_saw (standing_of s.chair) (standing_of t.chair) pair.two f

  met : alone_at 1 (standing_of t.chair) ≡ seeing f.machine (alone_at 1 (standing_of s.chair))
  met = λ i. record { queue = f.queue_is i; part = saw_second.is i; others = [] }

  pub owner_acts : AreSeated t sent
  owner_acts = record {
    owns = owns;
    sends = meet_sends (sending_in 1 s.chair sent) (sending_in 1 t.chair sent) f.machine f.sound saw_second.fits met refl refl refl pair.sends;
    two = still_two (standing_of s.chair) (standing_of t.chair) pair.two f;
    one_layout = pair.one_layout ∙ sym same.layout_is;
    one_seen = ap (λ (p : Part). p.seen) saw_second.is ∙ sym f.seen_is;
  }

  pub sender_sees : (now : KnownPair) → seats_view s sent ≡ now → Sees [] 0 (pair_sender now) (pair_sender (seats_view t sent))
  sender_sees now view = subst (λ (z : Known × Known). Sees [] 0 z.0 z.1)
      (λ i. ((sender_is s sent pair ∙ ap pair_sender view) i, sender_is t sent owner_acts i))
      (meet_sees (sending_in 1 s.chair sent) (sending_in 1 t.chair sent) _ f.machine f.sound saw_second.fits met refl refl refl pair.sends)

-- what an owner keeps is of its own part
owns_at : (s : Owning) (q : Standing) → q.part ≡ s.chair.part → OwnsQueue s → OwnsQueue (record s { chair = q })
owns_at s q is o = subst (λ (p : Part). OwnsQueue (record s { chair = record { queue = q.queue; part = p; others = q.others } })) (sym is) record {
  layout_is = o.layout_is;
  number_is = o.number_is;
  stands = o.stands;
  has_row = record { stage_is = o.has_row.stage_is; row_is = o.has_row.row_is };
  running_is = o.running_is;
  phase_is = o.phase_is;
  counts_are = o.counts_are;
}

-- the sender made steps, and the two have the chair of it
module _ {V : Type 0} (s : OwnerSeat V) (q : ValueStanding V) (sent : Sent) (pair : AreSeated s sent) (l : Learns 1 s.chair q) where
  g : OthersFollow 1 (standing_of s.chair) (standing_of q)
  g = l.follow

  saw_first : Saw g.machine s.chair.first.part q.first.part
  saw_first = first_saw (standing_of s.chair) (standing_of q) pair.two g

  abbrev alone_before : Owning
  alone_before = record (owning s) { chair = alone_at 0 (standing_of s.chair) }

  met_owner : alone_at 0 (standing_of q) ≡ seeing g.machine (alone_at 0 (standing_of s.chair))
  met_owner = λ i. record { queue = g.queue_is i; part = saw_first.is i; others = [] }

  owns_before : OwnsQueue alone_before
  owns_before = owns_at (owning s) (alone_at 0 (standing_of s.chair)) refl pair.owns.queue

  pub owner_looks : (now : KnownPair) → seats_view s sent ≡ now → Sees [] 0 (pair_owner now) (owner_view (owning (record s { chair = q })))
  owner_looks now view = meet_owner_sees alone_before (alone_at 0 (standing_of q)) g.machine g.sound saw_first.fits met_owner owns_before (pair_owner now)
      (ap pair_owner view)

  -- by a queueing, after which the hand is as before
  pub sender_acts : (u : Sent) → Sends (sending_in 1 q u) → u.layout ≡ sent.layout → q.hand ≡ s.chair.hand → AreSeated (record s { chair = q }) u
  sender_acts u sends layout hand = record {
    owns = record {
      queue = owns_at (record (owning s) { chair = alone_at 0 (standing_of q) }) (standing_of q) refl
          (meet_executes alone_before (alone_at 0 (standing_of q)) g.machine g.sound saw_first.fits met_owner owns_before);
      slots = met_slots g.machine s.chair q g.sound saw_first.fits pair.owns.queue.number_is g.queue_is saw_first.is (learns_more 1 s.chair q l) hand
          pair.owns.slots;
    };
    sends = sends;
    two = two_still (standing_of s.chair) (standing_of q) pair.two g;
    one_layout = layout ∙ pair.one_layout;
    one_seen = g.seen_is ∙ sym (ap (λ (p : Part). p.seen) saw_first.is);
  }

-- another seat met the two
module _ {V : Type 0} (s : OwnerSeat V) (q that that' : ValueStanding V) (sent : Sent) (pair : AreSeated s sent) (meet : ValueMeet s.chair that q that') where
  abbrev met_seat : OwnerSeat V
  met_seat = record s { chair = q }

  l : Learns 0 s.chair q
  l = learns_meet s.chair that q that' meet

  met_is : standing_of q ≡ seeing meet.machine (standing_of s.chair)
  met_is = met_plain meet.machine meet.brought s.chair q meet.this_is

  met_owns : OwnsSeat met_seat
  met_owns = record {
    queue = meet_executes (owning s) (standing_of q) meet.machine meet.sound meet.this_fits.fits met_is pair.owns.queue;
    slots = met_slots meet.machine s.chair q meet.sound meet.this_fits.fits pair.owns.queue.number_is l.follow.queue_is
        (ap (λ (x : ValueStanding V). x.first.part) meet.this_is) (learns_more 0 s.chair q l) (ap (λ (x : ValueStanding V). x.hand) meet.this_is)
        pair.owns.slots;
  }

  met_sees : (now : Known) → owner_view (owning s) ≡ now → Sees [] 0 now (owner_view (owning met_seat))
  met_sees now view = meet_owner_sees (owning s) (standing_of q) meet.machine meet.sound meet.this_fits.fits met_is pair.owns.queue now view

  pub seats_meet : AreSeated met_seat sent
  seats_meet = owner_acts s met_seat sent pair met_owns (met_sees (owner_view (owning s)) refl).same l

  pub owner_meets : (now : KnownPair) → seats_view s sent ≡ now → Sees [] 0 (pair_owner now) (owner_view (owning met_seat))
  owner_meets now view = met_sees (pair_owner now) (ap pair_owner view)

  pub sender_meets : (now : KnownPair) → seats_view s sent ≡ now → Sees [] 0 (pair_sender now) (pair_sender (seats_view met_seat sent))
  sender_meets = sender_sees s met_seat sent pair met_owns (met_sees (owner_view (owning s)) refl).same l

-- the first of two that were joined knows more
pub joined_more : {V : Type 0} (this that both : ValueStanding V) → ValueJoined this that both → IsPrefix this.first.brought both.first.brought
joined_more {V} this that both joined = subst (λ (t : ValuePart V). IsPrefix this.first.brought t.brought) (sym joined.first_is) joined.this_knows.0.begins

-- an owner and a sender, each alone, that become a pair
module _ {V : Type 0} (o : OwnerSeat V) (chair both : ValueStanding V) (sent : Sent) (owns : OwnsSeat o) (sends : Sends (sending_in 0 chair sent))
    (alone : chair.others ≡ []) (now there : Known) (view : owner_view (owning o) ≡ now) (its_view : sender_view (sending_in 0 chair sent) ≡ there)
    (one : there.queue ≡ now.queue) (joined : ValueJoined o.chair chair both) where
  abbrev joint : OwnerSeat V
  joint = record o { chair = both }

  one_queue : chair.queue ≡ o.chair.queue
  one_queue = ap (λ (k : Known). k.queue) its_view ∙ (one ∙ sym (ap (λ (k : Known). k.queue) view))

  others_then : plain_view both.others ≡ see joined.machine.history chair.first.part ∷ []
  others_then = ap plain_view joined.others_are ∙
      (plain_telling joined.brought (all_see joined.machine.history (chair.first.part ∷ plain_view chair.others)) ∙
      λ i. see joined.machine.history chair.first.part ∷ all_see joined.machine.history (plain_view (alone i)))

  second_is : part_in 1 both ≡ see joined.machine.history chair.first.part
  second_is = ap (chosen 1 both.first.part) others_then

  part_is : both.first.part ≡ see joined.machine.history o.chair.first.part
  part_is = ap (λ (t : ValuePart V). t.part) joined.first_is

  owner_met : alone_at 0 (standing_of both) ≡ seeing joined.machine (alone_at 0 (standing_of o.chair))
  owner_met = λ i. record { queue = joined.queue_is i; part = part_is i; others = [] }

  sender_met : alone_at 1 (standing_of both) ≡ seeing joined.machine (alone_at 0 (standing_of chair))
  sender_met = λ i. record { queue = (joined.queue_is ∙ sym one_queue) i; part = second_is i; others = [] }

  abbrev owning_alone : Owning
  owning_alone = record (owning o) { chair = alone_at 0 (standing_of o.chair) }

  owned : OwnsQueue owning_alone
  owned = owns_at (owning o) (alone_at 0 (standing_of o.chair)) refl owns.queue

  layouts : o.layout ≡ sent.layout
  layouts = meet_owner_layout (sending_in 0 chair sent) (owning o) (sender_view (sending_in 0 chair sent)) (owner_view (owning o)) joined.machine
      joined.that_fits.fits joined.this_fits.fits refl refl sends owns.queue

  pub joins : AreSeated joint sent
  joins = record {
    owns = record {
      queue = owns_at (record (owning o) { chair = alone_at 0 (standing_of both) }) (standing_of both) refl
          (meet_executes owning_alone (alone_at 0 (standing_of both)) joined.machine joined.sound joined.this_fits.fits owner_met owned);
      slots = met_slots joined.machine o.chair both joined.sound joined.this_fits.fits owns.queue.number_is joined.queue_is part_is
          (joined_more o.chair chair both joined) joined.hand_is owns.slots;
    };
    sends = meet_sends (sending_in 0 chair sent) (sending_in 1 both sent) joined.machine joined.sound joined.that_fits.fits sender_met refl refl refl sends;
    two = others_then ∙ ap (λ (p : Part). p ∷ []) (sym second_is);
    one_layout = sym layouts;
    one_seen = ap (λ (p : Part). p.seen) second_is ∙ sym (ap (λ (p : Part). p.seen) part_is);
  }

  pub owner_joins : Sees [] 0 now (pair_owner (seats_view joint sent))
  owner_joins = meet_owner_sees owning_alone (alone_at 0 (standing_of both)) joined.machine joined.sound joined.this_fits.fits owner_met owned now view

  pub sender_joins : Sees [] 0 there (pair_sender (seats_view joint sent))
  sender_joins = subst (Sees [] 0 there) (sender_is joint sent joins)
      (meet_sees (sending_in 0 chair sent) (sending_in 1 both sent) there joined.machine joined.sound joined.that_fits.fits sender_met refl refl its_view sends)

  pub low_joins : sent.number < o.layout.senders
  low_joins = subst (λ (l : Layout). sent.number < l.senders) (sym layouts) sends.low
