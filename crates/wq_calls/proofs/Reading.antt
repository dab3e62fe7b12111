-- What the owner's answers say of its history.
use Rattle.wq_calls.proofs.Common.{◌≡◌, ◌≢◌, ℕ, List, [], ◌∷◌, Some, None, slice_get, refl, Event, open_from_closed, IsClosed_from_closed}
use Rattle.wq_calls.proofs.Common.{closed_shuts, runs_from_running, rests_from_running, batch, next_of}

nothing_first : (ks : List ℕ) → slice_get ks 0 ≡ None → ks ≡ []
nothing_first [] is = refl
nothing_first (k ∷ ks) is = absurd (cc is)

something_first : (ks : List ℕ) (k : ℕ) → slice_get ks 0 ≡ Some k → ks ≢ []
something_first [] k is e = absurd (cc is)
something_first (j ∷ ks) k is e = absurd (cc e)

pub empty_from_next : (h : List Event) → next_of h ≡ None → batch h ≡ []
empty_from_next h is = nothing_first (batch h) is

pub waits_from_next : (h : List Event) (k : ℕ) → next_of h ≡ Some k → batch h ≢ []
waits_from_next h k is = something_first (batch h) k is

pub ruleset reading = (open_from_closed, IsClosed_from_closed, closed_shuts, empty_from_next, waits_from_next, rests_from_running, runs_from_running)
