-- The two seats of a worker, its sender s and the owner, in one order.
use Rattle.std.specs.Prelude.{◌≡◌, ℕ, ◌≤◌, Bool, true, false, not, Option, Some, None, List, [], ◌∷◌, ◌++◌, length, filter}
use Rattle.wq_words.specs.declared.event.Event.{Event}
use Rattle.wq_words.specs.declared.event.Event.TheVariants.{Take}
use Rattle.wq_words.specs.History.{shut, next, IsShut}
use Rattle.wq_words.specs.Seen.{owner_seat, own, is_ours}
use Rattle.wq_live.specs.Batch.{next_of}

-- What is seen goes on from v to w. In what came new the events of the sender s and of the owner are xs, in this order, and
-- at least n are of other seats.
pub record Adds (s : ℕ) (xs : List Event) (n : ℕ) (v w : List Event) : Type 0 where
  pub new : List Event
  pub is : w ≡ v ++ new
  pub ours : filter (is_ours s) new ≡ xs
  pub theirs : n ≤ length (filter (λ e. not (is_ours s e)) new)

-- a take, where nothing that was taken waits and the queue is open
abbrev pub taking_of : Option ℕ → Bool → List Event
taking_of None false = Take ∷ []
taking_of None true = []
taking_of (Some k) is_shut = []

abbrev pub taking : List Event → List Event
taking h = taking_of (next_of h) (shut h)

-- no number was accepted that had not begun: at the Take that is the owner's last event, or, once the queue is shut, at all
pub data NothingWaits (h : List Event) : Type 0 where
  at_take : (before after : List Event) → h ≡ before ++ Take ∷ after → own owner_seat after ≡ [] → next before ≡ None → NothingWaits h
  at_all : IsShut h → next h ≡ None → NothingWaits h
