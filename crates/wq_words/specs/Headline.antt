-- What holds of each legal history.
use Rattle.std.specs.Prelude.{◌≡◌, ◌≢◌, ℕ, ◌<◌, ◌≤◌, List, length, take, Some, slice_get}
use mathlib.Core.List.{IsPrefix}
use Rattle.wq_words.specs.declared.event.Event.{Event}
use Rattle.wq_words.specs.declared.event.Event.TheVariants.{Hold, Push, Close, Drain, Resume, Begin, End}
use Rattle.wq_words.specs.History.{accepted, begun, ended, IsPending, Holds}
use Rattle.wq_words.specs.Legal.{HasRunOut}

-- each accepted queueing begins at most once, in the order of acceptance: begun is a beginning of accepted
abbrev pub BeginsInOrder : List Event → Type 0
BeginsInOrder h = IsPrefix (begun h) (accepted h)

abbrev pub EndsInOrder : List Event → Type 0
EndsInOrder h = IsPrefix (ended h) (begun h)

-- executions do not overlap: between two Begins stands the End of the first
abbrev pub NeverOverlaps : List Event → Type 0
NeverOverlaps h = (first second j k : ℕ) → first < second → slice_get h first ≡ Some (Begin j) → slice_get h second ≡ Some (Begin k)
    → (end : ℕ) × (first < end) × (end < second) × (slice_get h end ≡ Some (End j))

-- the Begin at the place `begin` executes the queueing at the place `queueing`: as many had begun before the one as were accepted before the other
abbrev pub Executes : List Event → ℕ → ℕ → Type 0
Executes h begin queueing = length (begun (take begin h)) ≡ length (accepted (take queueing h))

-- each sender's queueings begin in the order of its pushes: where its later push is executed, its earlier one was begun before
abbrev pub KeepsSenderOrder : List Event → Type 0
KeepsSenderOrder h = (s j k i first second begin : ℕ) → first < second → slice_get h first ≡ Some (Push s j) → slice_get h second ≡ Some (Push s k)
    → slice_get h begin ≡ Some (Begin i) → Executes h begin second
    → (before : ℕ) × (before < begin) × (slice_get h before ≡ Some (Begin j)) × Executes h before first

abbrev pub NoPushFollowsClose : List Event → Type 0
NoPushFollowsClose h = (place close s k : ℕ) → slice_get h place ≡ Some (Push s k) → slice_get h close ≡ Some Close → place < close

-- behind a Drain no push comes before the Resume that ends it
abbrev pub NoPushWithinDrain : List Event → Type 0
NoPushWithinDrain h = (drain push s k : ℕ) → drain < push → slice_get h drain ≡ Some Drain → slice_get h push ≡ Some (Push s k)
    → (resume : ℕ) × (drain < resume) × (resume < push) × (slice_get h resume ≡ Some Resume)

-- the Hold at the place `hold` belongs to the push of k by s at the place `push`
pub record IsOwnHold (h : List Event) (s k hold push : ℕ) : Type 0 where
  pub earlier : hold < push
  pub by_sender : slice_get h hold ≡ Some (Hold s k)
  pub found_idle : ¬ IsPending (take hold h) k
  -- s held k from there up to the push
  pub held_since : (moment : ℕ) → hold < moment → moment ≤ push → Holds (take moment h) s k
  -- no other push of k by s stands between, so that it belongs to no other
  pub its_own : (between : ℕ) → hold < between → between < push → slice_get h between ≢ Some (Push s k)

-- each push has a hold of its own by the same sender
abbrev pub EachPushHasHold : List Event → Type 0
EachPushHasHold h = (push s k : ℕ) → slice_get h push ≡ Some (Push s k) → (hold : ℕ) × IsOwnHold h s k hold push

-- at no moment do two senders hold one number
abbrev pub HasOneHolder : List Event → Type 0
HasOneHolder h = (moment s t k : ℕ) → Holds (take moment h) s k → Holds (take moment h) t k → s ≡ t

-- at each moment at which a close or a drain has ended, all that was accepted has begun and ended, in order
abbrev pub IsDoneWhenRunOut : List Event → Type 0
IsDoneWhenRunOut h = (moment : ℕ) → HasRunOut (take moment h)
    → (ended (take moment h) ≡ begun (take moment h)) × (begun (take moment h) ≡ accepted (take moment h))

-- a drain ends only so
abbrev pub EachResumeRunOut : List Event → Type 0
EachResumeRunOut h = (resume : ℕ) → slice_get h resume ≡ Some Resume → HasRunOut (take resume h)

pub record KeepsHeadline (h : List Event) : Type 0 where
  pub begun_in_order : BeginsInOrder h
  pub ended_in_order : EndsInOrder h
  pub no_overlap : NeverOverlaps h
  pub sender_order : KeepsSenderOrder h
  pub no_push_after_close : NoPushFollowsClose h
  pub no_push_within_drain : NoPushWithinDrain h
  pub push_of_held : EachPushHasHold h
  pub one_holder : HasOneHolder h
  pub done : IsDoneWhenRunOut h
  pub resumed : EachResumeRunOut h
