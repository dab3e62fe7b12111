-- What was accepted of one seat, among all that was accepted.
use Rattle.wq_words.proofs.Common.{◌≡◌, ℕ, ◌≤◌, ◌==◌, Bool, true, false, List, [], ◌∷◌, Option, Some, None, refl, arith, Event, seat_of, own, accepted}
use Rattle.wq_words.proofs.Common.{accepted_by}
use Rattle.wq_words.proofs.Times.{times, times-cons}

-- a number stands no more often there
pub own_times : (s k : ℕ) (h : List Event) → times k (accepted (own s h)) ≤ times k (accepted h)
own_times s k [] = omega arith
own_times s k (e ∷ h) = go (seat_of e == s) refl (accepted_by e) refl (own_times s k h)
  where
    go : (b : Bool) → (seat_of e == s) ≡ b → (o : Option ℕ) → accepted_by e ≡ o → times k (accepted (own s h)) ≤ times k (accepted h)
        → times k (accepted (own s (e ∷ h))) ≤ times k (accepted (e ∷ h))
    go true mine None none rest = rw (mine, none) rest
    go false mine None none rest = rw (mine, none) rest
    go true mine (Some j) is rest = rw (mine, is) (omega (arith, rest, times-cons k j (accepted (own s h)), times-cons k j (accepted h)))
    go false mine (Some j) is rest = rw (mine, is) (omega (arith, rest, times-cons k j (accepted h)))
