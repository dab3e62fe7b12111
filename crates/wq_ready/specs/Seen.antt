-- Whose a ready event is, and what a caller sees come new.
use Rattle.std.specs.Prelude.{◌≡◌, ℕ, ◌==◌, List, ◌++◌, filter}
use Rattle.wq_ready.specs.declared.event.ReadyEvent.{ReadyEvent}
use Rattle.wq_ready.specs.History.{caller_of}

-- the events of the caller c
abbrev pub own_ready : ℕ → List ReadyEvent → List ReadyEvent
own_ready c h = filter (λ e. caller_of e == c) h

-- What is seen goes on from v to w. In what came new the events of the caller c are xs.
pub record GrowsReady (c : ℕ) (xs v w : List ReadyEvent) : Type 0 where
  pub new : List ReadyEvent
  pub is : w ≡ v ++ new
  pub mine : own_ready c new ≡ xs
