-- What is accepted is one of the queue's numbers, and each number waits at most once.
use Rattle.wq_words.proofs.Common.{◌≡◌, ℕ, ◌<◌, ◌≤◌, List, [], ◌∷◌, ◌++◌, Some, slice_get, ap, ◌∙◌, arith, inl, inr, slice_get-get_or, Layout, Event, Push, Chain}
use Rattle.wq_words.proofs.Common.{Keeper, Listed, number_count, accepted, IsAllowed, IsLegal}
use Rattle.wq_words.proofs.Growing.{growing, slice_get_push}
use Rattle.wq_words.proofs.Legal.{legal_induction}
use Rattle.wq_words.proofs.Keepers.{queue_bit}
use Rattle.wq_words.proofs.Times.{times, Contains_from_times}

-- each accepted number is one of the queue's
pub accepted_number : (layout : Layout) (h : List Event) → IsLegal layout h → (i k : ℕ) → slice_get (accepted h) i ≡ Some k → k < number_count layout
accepted_number layout =
    legal_induction layout (λ h. (i k : ℕ) → slice_get (accepted h) i ≡ Some k → k < number_count layout) (λ i k at. absurd cc)
    (λ h e legal allowed before. more h e allowed before)
  where
    added : (xs : List ℕ) (j : ℕ) → j < number_count layout → ((i k : ℕ) → slice_get xs i ≡ Some k → k < number_count layout) → (i k : ℕ)
        → slice_get (xs ++ j ∷ []) i ≡ Some k → k < number_count layout
    added xs j lt old i k at = elim (slice_get_push xs j k i at) [ inl a ↦ old i k a | inr b ↦ rw (← b.1) lt ]

    more : (h : List Event) (e : Event) → IsAllowed layout h e → ((i k : ℕ) → slice_get (accepted h) i ≡ Some k → k < number_count layout)
        → (i k : ℕ) → slice_get (accepted (h ++ e ∷ [])) i ≡ Some k → k < number_count layout
    more h (Push s j) allowed old = simp growing (added (accepted h) j allowed.1 old)
    more h (Chain j) allowed old = simp growing (added (accepted h) j (omega (arith, allowed.1)) old)
    more h _ allowed old = simp growing old

-- the same of numbers that are counted
pub accepted_below : (layout : Layout) (h : List Event) → IsLegal layout h → (q : ℕ) → 1 ≤ times q (accepted h) → q < number_count layout
accepted_below layout h legal q some =
    let there = Contains_from_times q (accepted h) some in
    accepted_number layout h legal there.0 q (slice_get-get_or (accepted h) there.0 q there.1 ∙ ap Some there.2)

-- in the queue a number stands at most once
pub queue_once : (x : Keeper) → queue_bit x ≤ 1
queue_once Listed = omega arith
queue_once _ = omega arith
