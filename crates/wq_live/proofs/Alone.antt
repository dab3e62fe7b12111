-- Senders and owners alone in their chairs, with nothing in hand, that made steps or met.
use Rattle.wq_live.proofs.Common.{◌≡◌, ℕ, Bool, true, false, [], refl, ap, ◌∙◌, arith, Posted, Machine, IsSound, all_see, plain_view}
use Rattle.wq_live.proofs.Common.{ValueStanding, standing_of, knowing, Learns, plain_telling, Bare, OwnerSeat, Sent, HoldsSlot, PostsSlot, OwnsSeat}
use Rattle.wq_live.proofs.Common.{Known, Sees, sending_in, sender_view, owning, owner_view, alone_at, Sends}
use Rattle.wq_words.specs.declared.answer.Posted.TheVariants as posted
use Rattle.wq_table.specs.Chair.{SeatedIn}
use Rattle.wq_live.specs.declared.sender.Sender.TheInside as sender
use Rattle.wq_live.specs.declared.owner.Owner.TheInside as owner
use Rattle.wq_live.specs.Alone.{SendsAlone, OwnsAlone}
use Rattle.wq_calls.proofs.Meeting.{met_plain, meet_executes, meet_owner_sees}
use Rattle.wq_calls.proofs.Sends.{meet_sends, meet_sees}
use Rattle.wq_calls.proofs.ValueSeats.{learns_alone, learns_slots}
use Rattle.wq_table.proofs.SlotTold.{none_plain}

module _ {V : Type 0} (k : ℕ) (a b : ValueStanding V) (none : a.queue.slots ≡ 0) where
  -- where there are no slots the hand stays
  pub held_bare : (z : Bool) → HoldsSlot k z a b → b.hand ≡ a.hand
  held_bare true comes = comes.none none
  held_bare false stays = stays

  pub posted_bare : (at : ℕ) (z : Posted) → PostsSlot at k z a b → b.hand ≡ a.hand
  posted_bare at (posted.Queued first wakes) moves = moves.0.none none
  posted_bare at posted.Closed stays = stays
  posted_bare at posted.Draining stays = stays
  posted_bare at posted.Contended stays = stays

pub owner_alone : (s t : owner.Inside) → OwnsAlone s → OwnsSeat t.seat → Learns 0 s.seat.chair t.seat.chair → OwnsAlone t
owner_alone s t was owns l = record {
  owns = owns;
  alone = learns_alone s.seat.chair t.seat.chair l was.alone;
  bare = learns_slots 0 s.seat.chair t.seat.chair l ∙ was.bare;
}

-- steps that left the hand
pub sender_alone : (s t : sender.Inside) → SendsAlone s → Sends (sending_in 0 t.chair t.sent) → Learns 0 s.chair t.chair → t.chair.hand ≡ s.chair.hand
    → SendsAlone t
sender_alone s t was sends l hand = record {
  sends = sends;
  alone = learns_alone s.chair t.chair l was.alone;
  bare = learns_slots 0 s.chair t.chair l ∙ was.bare;
  empty = hand ∙ was.empty;
}

-- a chair alone that met others
module _ (m : Machine) (sound : IsSound m) (brs : _) (it it' : ValueStanding Bare) (fits : SeatedIn m (standing_of it)) (is : it' ≡ knowing m brs it) where
  still_alone : it.others ≡ [] → it'.others ≡ []
  still_alone none = none_plain it'.others (ap (λ (x : ValueStanding Bare). plain_view x.others) is ∙
      (plain_telling brs (all_see m.history (plain_view it.others)) ∙ ap (λ v. all_see m.history (plain_view v)) none))

  pub sender_met : (sent : Sent) → SendsAlone (record { chair = it; sent = sent }) → SendsAlone (record { chair = it'; sent = sent })
  sender_met sent was = record {
    sends = meet_sends (sending_in 0 it sent) (sending_in 0 it' sent) m sound fits.fits (ap (alone_at 0) (met_plain m brs it it' is)) refl refl refl was.sends;
    alone = still_alone was.alone;
    bare = ap (λ (x : ValueStanding Bare). x.queue.slots) is ∙ was.bare;
    empty = ap (λ (x : ValueStanding Bare). x.hand) is ∙ was.empty;
  }

  pub sender_met_sees : (sent : Sent) (now : Known) → sender_view (sending_in 0 it sent) ≡ now → Sends (sending_in 0 it sent)
      → Sees [] 0 now (sender_view (sending_in 0 it' sent))
  sender_met_sees sent now view sends = meet_sees (sending_in 0 it sent) (sending_in 0 it' sent) now m sound fits.fits
      (ap (alone_at 0) (met_plain m brs it it' is)) refl refl view sends

module _ (m : Machine) (sound : IsSound m) (brs : _) (s : OwnerSeat Bare) (it : ValueStanding Bare) (fits : SeatedIn m (standing_of s.chair))
    (is : it ≡ knowing m brs s.chair) where
  pub owner_met : OwnsAlone (record { seat = s }) → OwnsAlone (record { seat = record s { chair = it } })
  owner_met was = let plain = met_plain m brs s.chair it is in record {
    owns = record {
      queue = meet_executes (owning s) (standing_of it) m sound fits.fits plain was.owns.queue;
      slots = record {
        some = λ some. absurd (omega (arith, some, was.bare, ap (λ (x : ValueStanding Bare). x.queue.slots) is));
        none = λ none. ap (λ (x : ValueStanding Bare). x.hand) is ∙ was.owns.slots.none was.bare;
      };
    };
    alone = still_alone m sound brs s.chair it fits is was.alone;
    bare = ap (λ (x : ValueStanding Bare). x.queue.slots) is ∙ was.bare;
  }

  pub owner_met_sees : (now : Known) → owner_view (owning s) ≡ now → OwnsAlone (record { seat = s })
      → Sees [] 0 now (owner_view (owning (record s { chair = it })))
  owner_met_sees now view was = meet_owner_sees (owning s) (standing_of it) m sound fits.fits (met_plain m brs s.chair it is) was.owns.queue now view
