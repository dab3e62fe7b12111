-- What the owner's `next` says of its history, where it is tested whether it is some.
use Rattle.std.proofs.Common.{◌≡◌, ◌≢◌, ℕ, true, false, List, [], Option, Some, None, is_some, sym}
use Rattle.wq_words.specs.declared.event.Event.{Event}
use Rattle.wq_calls.specs.Batch.{batch, next_of}
use Rattle.wq_calls.proofs.Reading.{empty_from_next, waits_from_next}

pub waits_told : (h : List Event) (r : Option ℕ) → r ≡ next_of h → is_some r ≡ true → batch h ≢ []
waits_told h None is some = absurd (cc)
waits_told h (Some k) is some = waits_from_next h k (sym is)

pub empty_told : (h : List Event) (r : Option ℕ) → r ≡ next_of h → is_some r ≡ false → batch h ≡ []
empty_told h None is none = empty_from_next h (sym is)
empty_told h (Some k) is none = absurd (cc)
