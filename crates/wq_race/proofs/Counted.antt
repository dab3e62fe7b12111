-- Counts of histories.
use Rattle.wq_race.proofs.Common.{◌≡◌, ℕ, ◌+◌, ◌*◌, ◌≤◌, Bool, List, [], ◌∷◌, length, ap, arith, length-append, count_by, IsPrefix, Event, capped, SendsAll}
use Rattle.wq_race.proofs.Common.{SendsOne, pushed, busy, refused, count_by-append}

-- the queueing of a number adds at most two events
sends_few : (s k : ℕ) (es : List Event) → SendsOne s k es → length es ≤ 2
sends_few s k es (pushed is) = omega (arith, ap (length {A = Event}) is)
sends_few s k es (busy is) = omega (arith, ap (length {A = Event}) is)
sends_few s k es (refused cause refusal is) = omega (arith, ap (length {A = Event}) is)

pub all_few : (s : ℕ) (ks : List ℕ) (es : List Event) → SendsAll s ks es → length es ≤ 2 * length ks
all_few s [] es f = omega (arith, ap (length {A = Event}) f)
all_few s (k ∷ ks) es f =
    let size : length (k ∷ ks) ≡ length ks + 1 = omega arith in
    omega (arith, ap (length {A = Event}) f.2, length-append f.0 f.1, sends_few s k f.0 f.3, all_few s ks f.1 f.4, size)

-- what was counted before is counted later
pub counts_on : (p : Event → Bool) (v w : List Event) → IsPrefix v w → count_by p v ≤ count_by p w
counts_on p v w more = omega (arith, ap (count_by p) more.1, count_by-append p v more.0)

-- Where as much was executed as the senders and the program counted, and the senders counted no more than they pushed, the
-- worker pushed and chained nothing.
pub spare : (push chain executed sum below worker program known : ℕ) → executed ≡ sum + capped program → push + chain ≡ executed
    → push ≡ below + worker + program → sum ≤ known → known ≤ below → (worker ≡ 0) × (chain ≡ 0) × (sum ≡ known)
spare push chain executed sum below worker program known is parts seats le more = (
  omega (arith, is, parts, seats, le, more),
  omega (arith, is, parts, seats, le, more),
  omega (arith, is, parts, seats, le, more),
)
