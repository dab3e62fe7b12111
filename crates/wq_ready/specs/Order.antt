-- What holds of each legal ready history.
use Rattle.std.specs.Prelude.{◌≡◌, ℕ, ◌+◌, ◌<◌, ◌≤◌, List, length, take, Some, slice_get}
use mathlib.Core.List.{IsPrefix}
use Rattle.wq_ready.specs.declared.size.Size.{Size}
use Rattle.wq_ready.specs.declared.event.ReadyEvent.{ReadyEvent}
use Rattle.wq_ready.specs.declared.event.ReadyEvent.TheVariants.{Announce, Pick}
use Rattle.wq_ready.specs.History.{announced, picked}

-- The Pick at the place `pick` is of the Announce at the place `announce`: they have the same queue, and as many were picked
-- before the one as were announced before the other.
pub record IsPickOf (h : List ReadyEvent) (announce pick : ℕ) : Type 0 where
  pub queue : ℕ
  pub announcer : ℕ
  pub picker : ℕ
  pub is_announce : slice_get h announce ≡ Some (Announce announcer queue)
  pub is_pick : slice_get h pick ≡ Some (Pick picker queue)
  pub in_turn : length (picked (take pick h)) ≡ length (announced (take announce h))

-- each pick is of an announcement that stands before it
abbrev pub EachPickHasAnnounce : List ReadyEvent → Type 0
EachPickHasAnnounce h =
    (pick c q : ℕ) → slice_get h pick ≡ Some (Pick c q) → (announce : ℕ) × (announce < pick) × IsPickOf h announce pick

-- of two picks the later is of the later announcement, so no two are of one
abbrev pub ArePickedInOrder : List ReadyEvent → Type 0
ArePickedInOrder h = (first second announce later : ℕ) → first < second → IsPickOf h announce first → IsPickOf h later second → announce < later

pub record KeepsOrder (size : Size) (h : List ReadyEvent) : Type 0 where
  -- what was picked is a beginning of what was announced
  pub picked_in_order : IsPrefix (picked h) (announced h)
  pub pick_of_announced : EachPickHasAnnounce h
  pub each_once : ArePickedInOrder h
  -- no more announcements wait than there are queues
  pub within_room : length (announced h) ≤ length (picked h) + size.queues
