-- Who keeps a number: nobody, the sender that holds it, the pending list, or the owner, who took it or chained it.
use Rattle.std.specs.Prelude.{◌≡◌, ℕ, ◌<◌, ◌≤◌, ◌==◌, if◌then◌else◌, List, length, Some, slice_get, fold}
use Rattle.wq_words.specs.declared.event.Event.{Event}
use Rattle.wq_words.specs.declared.event.Event.TheVariants.{Hold, Push, Back, Take, Close, Drain, Begin, Chain}
use Rattle.wq_words.specs.History.{accepted, begun, taken, IsPending, Holds}

pub data Keeper : Type 0 where
  Home : Keeper
  Sender : (s : ℕ) → Keeper
  Listed : Keeper
  Owner : Keeper

-- k stands among the accepted and not begun numbers at a place that this holds of
abbrev pub Waits : List Event → ℕ → (ℕ → Type 0) → Type 0
Waits h k P = (place : ℕ) × (length (begun h) ≤ place) × P place × (slice_get (accepted h) place ≡ Some k)

-- x keeps k, said by the counts and lists of the history
abbrev pub Keeps : List Event → ℕ → Keeper → Type 0
Keeps h k Home = ¬ IsPending h k
Keeps h k (Sender s) = Holds h s k
Keeps h k Listed = Waits h k (λ place. taken h ≤ place)
Keeps h k Owner = Waits h k (λ place. place < taken h)

-- the list goes to the owner
abbrev pub taken_over : Keeper → Keeper
taken_over Listed = Owner
taken_over x = x

-- who keeps k after an event, where x kept it before
abbrev pub keeper_after : ℕ → Keeper → Event → Keeper
keeper_after k x (Hold s j) = if j == k then Sender s else x
keeper_after k x (Push s j) = if j == k then Listed else x
keeper_after k x (Back s j why) = if j == k then Home else x
keeper_after k x Take = taken_over x
keeper_after k x Close = taken_over x
keeper_after k x Drain = taken_over x
keeper_after k x (Begin j) = if j == k then Home else x
keeper_after k x (Chain j) = if j == k then Owner else x
keeper_after k x _ = x

-- who keeps k, an event at a time
abbrev pub keeper : List Event → ℕ → Keeper
keeper h k = fold (keeper_after k) Home h
