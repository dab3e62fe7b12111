-- The calls of senders and of the worker, on the running words and in a script.
use Rattle.std.specs.Prelude.{◌≡◌, ℕ, Bool, not, ◌==◌, Option, List, [], ◌++◌, length, filter}
use Rattle.wq_words.specs.declared.layout.Layout.{Layout}
use Rattle.wq_words.specs.declared.event.Event.{Event}
use Rattle.wq_words.specs.History.{IsRunning}
use Rattle.wq_words.specs.Seen.{is_ours}
use Rattle.wq_words.specs.declared.answer.Answer.{Answer}
use Rattle.wq_meaning.specs.Queueing.{queue_events, queue_answer, close_events, close_answer}
use Rattle.wq_meaning.specs.Execution.{after_executions, ends_at, left_in, begin_drain, end_drain, ended_since}
use Rattle.wq_script.specs.declared.seats.Seats.{Seats}
use Rattle.wq_script.specs.Seats.{IsSameWork, IsSameTable, Seated}
use Rattle.wq_script.specs.Quiet.{ListsFit}

-- the sender asked for a queueing of the number k, and nothing else happened
pub record Asks (layout : Layout) (sender k : ℕ) (a : Answer) (h : List Event) (s t : Seats) : Type 0 where
  pub answer : a ≡ queue_answer k h
  pub seated : Seated layout t (h ++ queue_events sender k h)
  pub work : IsSameWork s.worker t.worker
  pub table : IsSameTable s.delay t.delay

-- the same, of the number that it is in a queue of any size, and of every history that the seats have seen
abbrev pub AsksOf : ℕ → (Layout → ℕ) → Answer → Seats → Seats → Type 0
AsksOf sender number a s t = (layout : Layout) (h : List Event) → Seated layout s h → Asks layout sender (number layout) a h s t

-- this is the history now, and the work and the table are as they were
pub record Reaches (layout : Layout) (h : List Event) (s t : Seats) : Type 0 where
  pub seated : Seated layout t h
  pub work : IsSameWork s.worker t.worker
  pub table : IsSameTable s.delay t.delay

-- nothing happened, and this is so of the history
abbrev pub LooksAt : (Layout → List Event → Bool) → Bool → Seats → Seats → Type 0
LooksAt what is s t = (layout : Layout) (h : List Event) → Seated layout s h → Reaches layout h s t × (is ≡ what layout h)

-- the queue is closed, where it was not, and this is how many that took
abbrev pub ClosesAs : Option ℕ → Seats → Seats → Type 0
ClosesAs taken s t = (layout : Layout) (h : List Event) → Seated layout s h → Reaches layout (h ++ close_events h) s t × (taken ≡ close_answer h)

-- a drain began, where the queue was open, and ended, where nothing is left and the queue drained
abbrev pub DrainsNone : Bool → Seats → Seats → Type 0
DrainsNone is_empty s t =
    (layout : Layout) (h : List Event) → Seated layout s h → Reaches layout (end_drain (begin_drain h)) s t × (is_empty ≡ (left_in (begin_drain h) == 0))

-- there is a list for each item, of items
pub record HasFollowLists (layout : Layout) (s : Seats) : Type 0 where
  pub count : length s.worker.work.follows.items ≡ layout.items
  pub fit : ListsFit layout.items s.worker.work.follows.items

-- these were executed, and the lists and the table are as they were
pub record HasExecuted (layout : Layout) (h : List Event) (limit : ℕ) (ends : ℕ → Bool) (s t : Seats) (ran : List ℕ) : Type 0 where
  pub seated : Seated layout t (after_executions layout.senders s.worker.work.follows.items ends limit h)
  pub ran_is : ran ≡ ended_since h (after_executions layout.senders s.worker.work.follows.items ends limit h)
  pub idle : ¬ IsRunning (after_executions layout.senders s.worker.work.follows.items ends limit h)
  pub lists : t.worker.work.follows ≡ s.worker.work.follows
  pub table : IsSameTable s.delay t.delay
  pub new : List Event
  pub new_is : after_executions layout.senders s.worker.work.follows.items ends limit h ≡ h ++ new
  pub ours : filter (λ e. not (is_ours layout.senders e)) new ≡ []

-- at most so many were executed, up to one of the last number
abbrev pub RunsAs : Layout → ℕ → Option ℕ → List ℕ → Seats → Seats → Type 0
RunsAs layout limit last ran s t =
    (h : List Event) → Seated layout s h → ¬ IsRunning h → HasFollowLists layout s → HasExecuted layout h limit (ends_at last) s t ran
