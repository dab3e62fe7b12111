-- What an owner of a queue whose items bring values has handed over, call after call, and its history with values.
use Rattle.wq_calls.proofs.Common.{◌≡◌, ℕ, Bool, true, false, List, [], ◌∷◌, ◌++◌, length, slice_get, Option, Some, refl, sym, ap, ◌∙◌, subst, arith}
use Rattle.wq_calls.proofs.Common.{length-append, append-nil, IsPrefix, Layout, Event, Begin, ChainBusy, Answer, accepted, begun, IsLegal, AreBrought}
use Rattle.wq_calls.proofs.Common.{IsLegalWith, with_values, Part, Learns, learns_more, OwnerSeat, Sees, Rests, owning, owner_view, OwnsSeat}
use Rattle.wq_calls.proofs.Common.{KnownWith, Learnt, owner_seat, Grows, legal_front, owner_with, AreKnown, nil_from_length}
use Rattle.wq_words.specs.declared.event.Event.TheVariants.{Chain, Rest}
use Rattle.wq_words.specs.declared.answer.Answer.TheVariants as answer
use Rattle.wq_words.proofs.Valued.{legal_with}
pub use Rattle.wq_calls.specs.Answers.{Chains}
use Rattle.wq_calls.specs.KnownWith.{handed_in}
use Rattle.wq_calls.specs.Laws.{IsStillEnd}
use Rattle.wq_calls.proofs.OwnerTells.{stands_legal}
use Rattle.wq_calls.proofs.Handed.{handed_stays, handed_next}

-- the history that a seat has seen, with what was brought
pub whole_legal : {V : Type 0} (p : Part) (layout : Layout) (brs : List (Option V)) → p.layout ≡ layout → IsLegal layout p.seen
    → AreBrought p.layout.items (accepted p.seen) brs → IsLegalWith layout (with_values p.seen brs)
whole_legal p layout brs same legal are = legal_with layout p.seen brs legal (subst (λ (l : Layout). AreBrought l.items (accepted p.seen) brs) same are)

module _ {V : Type 0} (s t : OwnerSeat V) (l : Learns 0 s.chair t.chair) (owns : OwnsSeat s) (known : AreKnown s.chair) (now : KnownWith V)
    (view : owner_with s ≡ now) where
  legal : IsLegal s.chair.first.part.layout s.chair.first.part.seen
  legal = stands_legal s.chair.first.part owns.queue.stands

  pub owner_stays : (xs : List Event) (n : ℕ) → begun xs ≡ [] → Sees xs n (owner_view (owning s)) (owner_view (owning t))
      → handed_in (owner_with t) ≡ handed_in now
  owner_stays xs n none sees = handed_stays s.chair.first.part.layout s.chair.first.part.seen t.chair.first.part.seen
      s.chair.first.brought t.chair.first.brought legal known.as_many (learns_more 0 s.chair t.chair l) xs n none sees.grows
      ∙ ap handed_in view

  pub owner_rests : (b : Bool) → Rests b (owner_view (owning s)) (owner_view (owning t)) → handed_in (owner_with t) ≡ handed_in now
  owner_rests true rests = owner_stays (Rest ∷ []) 0 refl rests
  owner_rests false rests = owner_stays [] 0 refl rests

  pub owner_chains : (k : ℕ) (a : Answer) → Chains k a (owner_view (owning s)) (owner_view (owning t))
      → handed_in (owner_with t) ≡ handed_in now
  owner_chains k (answer.Queued first wakes) chains = owner_stays (Chain k ∷ []) 0 refl chains.2
  owner_chains k answer.Pending chains = owner_stays (ChainBusy k ∷ []) 0 refl chains
  owner_chains k answer.Closed chains = absurd chains
  owner_chains k answer.Draining chains = absurd chains
  owner_chains k answer.Contended chains = absurd chains

  pub owner_hands : (k : ℕ) (y : Option V) → Sees (Begin k ∷ []) 0 (owner_view (owning s)) (owner_view (owning t))
      → slice_get t.chair.first.brought (length (begun s.chair.first.part.seen)) ≡ Some y
      → handed_in (owner_with t) ≡ handed_in now ++ y ∷ []
  owner_hands k y sees at = handed_next s.chair.first.part.layout s.chair.first.part.seen t.chair.first.part.seen
      s.chair.first.brought t.chair.first.brought legal known.as_many (learns_more 0 s.chair t.chair l) k 0 y sees.grows at
      ∙ ap (λ (k : KnownWith V). handed_in k ++ y ∷ []) view

-- as many were brought before as are brought now, where nothing more was accepted
pub all_told : {V : Type 0} (v w : List Event) (bs cs : List (Option V)) → IsPrefix bs cs → length bs ≡ length (accepted v) → length cs ≡ length (accepted w)
    → accepted w ≡ accepted v → cs ≡ bs
all_told v w bs cs front many now same =
    sym front.1 ∙ (ap (λ (z : List (Option _)). bs ++ z) (nil_from_length front.0 (omega (
      arith,
      many,
      now,
      ap length same,
      ap length front.1,
      length-append bs front.0,
    ))) ∙ append-nil bs)

-- an owner that met another seat
pub met_handed : {V : Type 0} (old new : KnownWith V) → old.known.number ≡ owner_seat → Sees [] 0 old.known new.known → Learnt old new
    → handed_in new ≡ handed_in old
met_handed old new number sees learnt =
    let g = subst (λ (c : ℕ). Grows c [] 0 old.known.seen new.known.seen) number sees.grows in
    handed_stays new.known.layout old.known.seen new.known.seen old.brought new.brought
    (legal_front new.known.layout old.known.seen g.new (subst (IsLegal new.known.layout) g.is sees.legal)) learnt.was_whole learnt.more [] 0 refl g

pub met_end : {V : Type 0} (old new : KnownWith V) → Learnt old new → IsStillEnd old.known.seen new.known.seen → new.brought ≡ old.brought
met_end old new learnt end = all_told old.known.seen new.known.seen old.brought new.brought learnt.more learnt.was_whole learnt.as_many end.accepted_is
