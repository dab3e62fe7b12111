-- Whether a number runs, as a test and as a fact.
use Rattle.wq_words.proofs.Common.{◌≡◌, ℕ, List, length, get_or, Some, None, arith, slice_get_within, slice_get_past, slice_get-get_or, Event, begun, ended}
use Rattle.wq_words.proofs.Common.{IsRunning, running, true, false, Option, sym}
use Rattle.std.proofs.Common.{is_some}

-- a number that runs, where one does
pub runs_some : (h : List Event) → IsRunning h → (k : ℕ) × (running h ≡ Some k)
runs_some h runs = (get_or (begun h) (length (ended h)) 0, slice_get-get_or (begun h) (length (ended h)) 0 runs)

pub runs_from_running : (h : List Event) (k : ℕ) → running h ≡ Some k → IsRunning h
runs_from_running h k is = slice_get_within (begun h) (length (ended h)) k is

pub rests_from_running : (h : List Event) → running h ≡ None → ¬ IsRunning h
rests_from_running h is runs = absurd (cc (is, (runs_some h runs).1))

pub running_from_rests : (h : List Event) → ¬ IsRunning h → running h ≡ None
running_from_rests h idle = slice_get_past (begun h) (length (ended h)) (omega arith)

-- what runs is told by a test
pub runs_told : (h : List Event) (r : Option ℕ) → r ≡ running h → is_some r ≡ true → IsRunning h
runs_told h None is some = absurd (cc)
runs_told h (Some k) is some = runs_from_running h k (sym is)

pub idle_told : (h : List Event) (r : Option ℕ) → r ≡ running h → is_some r ≡ false → ¬ IsRunning h
idle_told h None is none = rests_from_running h (sym is)
idle_told h (Some k) is none = absurd (cc)
