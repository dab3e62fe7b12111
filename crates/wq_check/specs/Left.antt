-- What waits in a history, and what it leaves undone.
use Rattle.std.specs.Prelude.{ℕ, zero, suc, max, List, length, take, drop}
use Rattle.wq_words.specs.declared.event.Event.{Event}
use Rattle.wq_words.specs.History.{accepted, ended, unbegun}

-- what was accepted and has not ended, in order
abbrev pub left : List Event → List ℕ
left h = drop (length (ended h)) (accepted h)

-- the largest of the f n over all n from 0 to here
abbrev pub largest_up_to : (ℕ → ℕ) → ℕ → ℕ
largest_up_to f zero = f zero
largest_up_to f (suc n) = max (largest_up_to f n) (f (suc n))

-- how many waited at the moment when most did
abbrev pub most_waiting : List Event → ℕ
most_waiting h = largest_up_to (λ moment. length (unbegun (take moment h))) (length h)
