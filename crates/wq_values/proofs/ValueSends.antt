-- Senders and owners of queues whose items bring values, call after call.
use Rattle.wq_values.proofs.Common.{◌≡◌, ℕ, ◌<◌, Bool, List, [], ◌∷◌, ◌++◌, length, Option, None, refl, sym, ap, ◌∙◌, subst, append_assoc, Event, Push}
use Rattle.wq_values.proofs.Common.{Answer, accepted, AreBrought, slice_get-prefix, own-append, Machine, IsSound, seeing, ValueStanding, standing_of}
use Rattle.wq_values.proofs.Common.{knowing, Learns, learns_more, learns_right, Sent, OwnerSeat, Sees, sending_in, sender_view, owning, owner_view}
use Rattle.wq_values.proofs.Common.{alone_at, Sends, QueuesSlot, SendsValues, OwnsValues, KnownWith, Learnt, IsBroughtBy, sender_with, owner_with}
use Rattle.wq_words.specs.declared.answer.Answer.TheVariants as answer
use Rattle.wq_words.proofs.Prefixes.{prefix_on}
use Rattle.wq_table.specs.Chair.{SeatedIn}
use Rattle.wq_table.specs.Slots.{AllKnow}
use Rattle.wq_table.proofs.Learns.{learns_many, learns_knowing}
use Rattle.wq_values.specs.declared.value_sender.ValueSender.TheInside as sender
use Rattle.wq_values.specs.declared.value_owner.ValueOwner.TheInside as owner
use Rattle.wq_calls.specs.KnownWith.{BringsNothing}
use Rattle.wq_calls.proofs.Sends.{meet_sends, meet_sees}
use Rattle.wq_calls.proofs.Meeting.{met_plain, met_slots, meet_executes, meet_owner_sees}
use Rattle.wq_calls.proofs.Valuing.{is_brought_by}
use Rattle.wq_calls.proofs.ValueSeats.{learns_alone, still_some, owner_learnt}
use Rattle.wq_values.proofs.Alone.{values_alone}

module _ {V : Type 0} where
  -- more is learnt call after call
  pub learnt_on : (a b c : KnownWith V) → Learnt a b → Learnt b c → Learnt a c
  learnt_on a b c x y = record {
    more = prefix_on a.brought b.brought c.brought x.more y.more;
    was_whole = x.was_whole;
    as_many = y.as_many;
  }

  -- what was brought stays where no own event comes
  pub brought_still : (k : ℕ) (first wakes : Bool) (y : Option V) (a b : KnownWith V) → IsBroughtBy k first wakes y a → Sees [] 0 a.known b.known
      → Learnt a b → IsBroughtBy k first wakes y b
  brought_still k first wakes y a b is sees learnt =
      let push = is.0 in let new = sees.grows.new in
      subst (λ (c : ℕ). IsBroughtBy k first wakes y (record { known = record b.known { number = c }; brought = b.brought })) (sym sees.same.number_is) (
        record {
          before = push.before;
          after = push.after ++ new;
          is = sees.grows.is ∙ (ap (λ (h : List Event). h ++ new) push.is ∙ append_assoc push.before (Push a.known.number k ∷ push.after) new);
          last = own-append a.known.number push.after new ∙ (λ i. push.last i ++ sees.grows.mine i);
          first_is = push.first_is;
          wakes_is = push.wakes_is;
        },
        slice_get-prefix a.brought b.brought (length (accepted push.before)) y learnt.more is.1,
      )

  -- a barrier or the stop item
  pub brings_nothing : (at k : ℕ) (r : Answer) (a b : ValueStanding V) (t : Sent) → Sends (sending_in at b t) → 0 < a.queue.slots
      → QueuesSlot at k None r a b → BringsNothing k r (sender_with at b t)
  brings_nothing at k (answer.Queued first wakes) a b t sends some queued = is_brought_by at k first wakes None b t sends (queued.1 some)
  brings_nothing at k answer.Pending a b t sends some queued = tt
  brings_nothing at k answer.Closed a b t sends some queued = tt
  brings_nothing at k answer.Draining a b t sends some queued = tt
  brings_nothing at k answer.Contended a b t sends some queued = tt

  -- a sender that made steps
  module _ (s : sender.Inside V) (values : SendsValues s) (new : ValueStanding V) (t : Sent) (learns : Learns 0 s.chair new) where
    pub sends_values : Sends (sending_in 0 new t) → new.hand ≡ s.chair.hand → SendsValues (record { chair = new; sent = t })
    sends_values sends hand = record {
      sends = sends;
      alone = learns_alone s.chair new learns values.alone;
      slots = still_some 0 s.chair new learns values.slots;
      empty = hand ∙ values.empty;
      known = learns_right 0 s.chair new learns refl values.slots;
    }

    pub sender_learnt : (now : KnownWith V) → sender_with 0 s.chair s.sent ≡ now → Learnt now (sender_with 0 new t)
    sender_learnt now view = subst (λ (k : KnownWith V). Learnt k (sender_with 0 new t)) view record {
      more = learns_more 0 s.chair new learns;
      was_whole = values.known.as_many;
      as_many = learns_many 0 s.chair new learns;
    }

  -- seats that met
  module _ (m : Machine) (brs : List (Option V)) (sound : IsSound m) (right : AreBrought m.layout.items (accepted m.history) brs) where
    module _ (s : sender.Inside V) (values : SendsValues s) (new : ValueStanding V) (fits : SeatedIn m (standing_of s.chair))
        (know : AllKnow brs (s.chair.first ∷ s.chair.others)) (is : new ≡ knowing m brs s.chair) where
      learns : Learns 0 s.chair new
      learns = learns_knowing m brs s.chair new sound right.as_many (λ _. right) fits know is

      alone_is : alone_at 0 (standing_of new) ≡ seeing m (alone_at 0 (standing_of s.chair))
      alone_is = ap (alone_at 0) (met_plain m brs s.chair new is)

      pub met_values : SendsValues (record { chair = new; sent = s.sent })
      met_values = sends_values s values new s.sent learns
          (meet_sends (sending_in 0 s.chair s.sent) (sending_in 0 new s.sent) m sound fits.fits alone_is refl refl refl values.sends)
          (ap (λ (it : ValueStanding V). it.hand) is)

      module _ (now : KnownWith V) (view : sender_with 0 s.chair s.sent ≡ now) where
        pub met_sees : Sees [] 0 now.known (sender_view (sending_in 0 new s.sent))
        met_sees = meet_sees (sending_in 0 s.chair s.sent) (sending_in 0 new s.sent) now.known m sound fits.fits alone_is refl refl
            (ap (λ (k : KnownWith V). k.known) view) values.sends

        pub met_learnt : Learnt now (sender_with 0 new s.sent)
        met_learnt = sender_learnt s values new s.sent learns now view

    module _ (s : owner.Inside V) (values : OwnsValues s) (new : ValueStanding V) (fits : SeatedIn m (standing_of s.seat.chair))
        (know : AllKnow brs (s.seat.chair.first ∷ s.seat.chair.others)) (is : new ≡ knowing m brs s.seat.chair) where
      abbrev met_seat : OwnerSeat V
      met_seat = record s.seat { chair = new }

      owner_learns : Learns 0 s.seat.chair new
      owner_learns = learns_knowing m brs s.seat.chair new sound right.as_many (λ _. right) fits know is

      pub met_owner_values : OwnsValues (record { seat = met_seat })
      met_owner_values = values_alone s (record { seat = met_seat }) owner_learns values record {
        queue = meet_executes (owning s.seat) (standing_of new) m sound fits.fits (met_plain m brs s.seat.chair new is) values.owns.queue;
        slots = met_slots m s.seat.chair new sound fits.fits values.owns.queue.number_is owner_learns.follow.queue_is
            (ap (λ (it : ValueStanding V). it.first.part) is) (learns_more 0 s.seat.chair new owner_learns) (ap (λ (it : ValueStanding V). it.hand) is)
            values.owns.slots;
      }

      module _ (now : KnownWith V) (view : owner_with s.seat ≡ now) where
        pub met_owner_sees : Sees [] 0 now.known (owner_view (owning met_seat))
        met_owner_sees = meet_owner_sees (owning s.seat) (standing_of new) m sound fits.fits (met_plain m brs s.seat.chair new is) values.owns.queue now.known
            (ap (λ (k : KnownWith V). k.known) view)

        pub met_owner_learnt : Learnt now (owner_with met_seat)
        met_owner_learnt = owner_learnt 0 s.seat met_seat owner_learns values.known now view
