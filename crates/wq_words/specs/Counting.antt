-- Which events seats count, and how far.
use Rattle.std.specs.Prelude.{ℕ, ◌==◌, ◌-◌, ◌^◌, min, Bool, true, false}
use Rattle.wq_words.specs.declared.event.Event.{Event}
use Rattle.wq_words.specs.declared.event.Event.TheVariants.{Busy, Push, Back, Chain, ChainBusy}
use Rattle.wq_words.specs.declared.event.Why.TheVariants.{Closed, Contended, Draining}

-- a count stops at the largest number of 64 bits
abbrev pub capped : ℕ → ℕ
capped n = min n (2 ^ 64 - 1)

-- sender s was answered that its number is queued, is pending already, may not be queued any more, lost each try, or may not be
-- queued while the queue drains
abbrev pub is_queued_by : ℕ → Event → Bool
is_queued_by s (Push t k) = t == s
is_queued_by s _ = false

abbrev pub is_pending_by : ℕ → Event → Bool
is_pending_by s (Busy t k) = t == s
is_pending_by s _ = false

abbrev pub is_closed_by : ℕ → Event → Bool
is_closed_by s (Back t k Closed) = t == s
is_closed_by s _ = false

abbrev pub is_contended_by : ℕ → Event → Bool
is_contended_by s (Back t k Contended) = t == s
is_contended_by s _ = false

abbrev pub is_draining_by : ℕ → Event → Bool
is_draining_by s (Back t k Draining) = t == s
is_draining_by s _ = false

-- an item was chained, or found pending
abbrev pub is_chain : Event → Bool
is_chain (Chain k) = true
is_chain _ = false

abbrev pub is_chain_busy : Event → Bool
is_chain_busy (ChainBusy k) = true
is_chain_busy _ = false

-- the PENDING bit was found set, whoever asked
abbrev pub is_busy : Event → Bool
is_busy (Busy s k) = true
is_busy (ChainBusy k) = true
is_busy _ = false

-- a number was given back because the queue took no push: it was closed, or drained
abbrev pub is_refusal : Event → Bool
is_refusal (Back s k Closed) = true
is_refusal (Back s k Draining) = true
is_refusal _ = false
