-- What was found pending was pending.
use Rattle.wq_calls.proofs.Common.{◌≡◌, ℕ, false, List, [], ◌∷◌, Some, slice_get, sym, subst, take}
use Rattle.wq_calls.proofs.Common.{Event, Known, Sees, TestsAndSets, Answer, Answers}
use Rattle.wq_words.specs.History.{IsPending}
use Rattle.wq_words.specs.Legal.{MayFollow}
use Rattle.wq_calls.specs.Answers.{Chains}
use Rattle.wq_words.proofs.Lists.{alone, behind}
use Rattle.wq_words.specs.declared.event.Event.TheVariants.{Busy, ChainBusy}
use Rattle.wq_words.specs.declared.answer.Answer.TheVariants as answer
use Rattle.wq_calls.specs.Laws.{WasPending}

-- a seat's only new event, which may follow only where k is pending
pub found_pending : (k n : ℕ) (e : Event) (old new : Known) → ((h : List Event) → MayFollow h e → IsPending h k) → Sees (e ∷ []) n old new
    → WasPending k old.seen new.seen
found_pending k n e old new asks sees =
    let at = behind old.seen sees.grows.new e (alone _ sees.grows.new e sees.grows.mine) in
    let there = subst (λ (h : List Event). slice_get h at.0 ≡ Some e) (sym sees.grows.is) at.2 in
    (at.0, at.1, asks (take at.0 new.seen) (sees.legal at.0 e there).2)

pub hold_found_pending : (k : ℕ) (old new : Known) → TestsAndSets k false old new → WasPending k old.seen new.seen
hold_found_pending k old new = found_pending k 0 (Busy old.number k) old new (λ h may. may)

pub queueing_found_pending : (k tries : ℕ) (a : Answer) (old new : Known) → Answers k tries a old new → a ≡ answer.Pending → WasPending k old.seen new.seen
queueing_found_pending k tries answer.Pending old new told is = hold_found_pending k old new told
queueing_found_pending k tries (answer.Queued first wakes) old new told is = absurd (cc)
queueing_found_pending k tries answer.Closed old new told is = absurd (cc)
queueing_found_pending k tries answer.Draining old new told is = absurd (cc)
queueing_found_pending k tries answer.Contended old new told is = absurd (cc)

pub chaining_found_pending : (k : ℕ) (a : Answer) (old new : Known) → Chains k a old new → a ≡ answer.Pending → WasPending k old.seen new.seen
chaining_found_pending k answer.Pending old new told is = found_pending k 0 (ChainBusy k) old new (λ h may. may.2) told
chaining_found_pending k (answer.Queued first wakes) old new told is = absurd (cc)
chaining_found_pending k answer.Closed old new told is = absurd told
chaining_found_pending k answer.Draining old new told is = absurd told
chaining_found_pending k answer.Contended old new told is = absurd told
