-- What becomes of the pairs that a run asks for: each is queued with its value, or given back.
use Rattle.std.specs.Prelude.{◌≡◌, ℕ, ◌≤◌, Bool, List, [], ◌∷◌, ◌++◌, slice_get, length, Option, Some, if◌then◌else◌}
use Rattle.wq_words.specs.declared.event.Event.{Event}
use Rattle.wq_words.specs.declared.event.Event.TheVariants.{Begin}
use Rattle.wq_words.specs.History.{accepted, begun, shut, IsRunning}
use Rattle.wq_words.specs.Legal.{IsComplete}
use Rattle.wq_words.specs.Seen.{owner_seat}
use Rattle.wq_values.specs.Answers.{IsContended}
use Rattle.wq_values.specs.KnownWith.{Learnt}
use Rattle.wq_values.specs.OwnBrought.{own_brought}
use Rattle.wq_ledger.specs.Book.{BookState}
use Rattle.wq_worker.specs.declared.ran.Ran.{Ran}
use Rattle.wq_worker.specs.declared.ran.Ran.TheVariants.{Nothing}
use Rattle.wq_worker.specs.Seats.{Adds, taking}
use Rattle.wq_worker.specs.Follow.{Queues}
use Rattle.wq_worker.specs.State.{Moves}
use Rattle.wq_worker.specs.Resting.{LeavesWork}
use Rattle.wq_worker.specs.Step.{Begins, RunsBy}
use Rattle.wq_worker.specs.Works.{RunsNothing}
use Rattle.wq_worker.specs.Rows.{Along}
use Rattle.wq_worker.specs.Destroy.{IsBookOf}
use Rattle.wq_value_worker.specs.Returned.{GivenBack, GivesBack, MayLeave, values_in}
use Rattle.wq_value_worker.specs.ValueState.{ValueWorkerState, owner_in}

-- the pair (k, v), whose queueing added these events: it was queued where its number was accepted, else given back
pub data DealsOne {V : Type 0} (k : ℕ) (v : V) (es : List Event) (queued returned : List (ℕ × V)) : Type 0 where
  queues : accepted es ≡ k ∷ [] → queued ≡ (k, v) ∷ [] → returned ≡ [] → DealsOne k v es queued returned
  returns : accepted es ≡ [] → queued ≡ [] → returned ≡ (k, v) ∷ [] → DealsOne k v es queued returned

-- The same of a list, one pair after another: where n are items, the worker's sender is s, and the queue takes pushes or is
-- shut, these events were added, these pairs queued, and these given back.
abbrev pub Deals : {V : Type 0} → ℕ → ℕ → Bool → List (ℕ × V) → List Event → List (ℕ × V) → List (ℕ × V) → Type 0
Deals n s is_shut [] es queued returned = (es ≡ []) × (queued ≡ []) × (returned ≡ [])
Deals {V} n s is_shut (p ∷ ps) es queued returned =
    (fs gs : List Event) × (q qs r rs : List (ℕ × V)) × (es ≡ fs ++ gs) × (queued ≡ q ++ qs) × (returned ≡ r ++ rs)
    × Queues n s is_shut p.0 fs × DealsOne p.0 p.1 fs q r × Deals n s is_shut ps gs qs rs

-- the seat that queues what an execution asks for, after h: that of the worker's sender s, and the owner's once the queue is shut
abbrev pub queueing_seat : List Event → ℕ → ℕ
queueing_seat h s = if shut h then owner_seat else s

module _ {V W : Type 0} (given : W → List (ℕ × V)) (may : W → ℕ → V → List (ℕ × V) → W → Type 0) (takes : W → ℕ → V → W → Type 0) where
  -- The pairs ps are to be queued, after the events es, and the work is u. An item was run with the value that its own queueing
  -- brought; another number asks for nothing; and what was owed goes on with the rest of its pairs.
  pub data AsksFor (a b : ValueWorkerState V W) (ps : List (ℕ × V)) (u : W) (es : List Event) : Type 0 where
    item : (k : ℕ) (v : V) → ¬ IsRunning a.worker.seen → slice_get b.brought (length (begun a.worker.seen)) ≡ Some (Some v)
        → may a.worker.work k v ps u → es ≡ taking a.worker.seen ++ Begin k ∷ [] → AsksFor a b ps u es
    other : (k : ℕ) → ¬ IsRunning a.worker.seen → a.worker.layout.items ≤ k → ps ≡ [] → u ≡ a.worker.work
        → es ≡ taking a.worker.seen ++ Begin k ∷ [] → AsksFor a b ps u es
    owed : IsRunning a.worker.seen → ps ≡ a.unqueued → u ≡ a.worker.work → es ≡ [] → AsksFor a b ps u es

  -- a step from a to b: what it asked for was queued or given back, up to the pairs that are left, of which there are none
  -- once the execution has ended
  pub record DealsOut (a b : ValueWorkerState V W) : Type 0 where
    pub asked : List (ℕ × V)
    pub done : List (ℕ × V)
    pub queued : List (ℕ × V)
    pub returned : List (ℕ × V)
    pub ran : W
    pub before : List Event
    pub own : List Event
    pub after : List Event
    pub asks : AsksFor a b asked ran before
    pub split : asked ≡ done ++ b.unqueued
    pub whole : ¬ IsRunning b.worker.seen → b.unqueued ≡ []
    pub deals : Deals a.worker.layout.items a.worker.number (shut a.worker.seen) done own queued returned
    pub adds : Adds a.worker.number (before ++ (own ++ after)) 0 a.worker.seen b.worker.seen
    pub last : accepted after ≡ []
    pub brings : own_brought (queueing_seat a.worker.seen a.worker.number) b.worker.seen b.brought
        ≡ own_brought (queueing_seat a.worker.seen a.worker.number) a.worker.seen a.brought ++ values_in queued
    pub gives : GivenBack takes returned ran b.worker.work
    pub given_is : given b.worker.work ≡ given a.worker.work ++ returned

  -- the execution of k began and the work was run, with the value that k brought where it is an item, and no pair was dealt with
  pub record BeginsValue (a : ValueWorkerState V W) (k : ℕ) (b : ValueWorkerState V W) : Type 0 where
    pub begins : Begins (MayLeave may takes) a.worker k b.worker
    pub asks : AsksFor a b b.unqueued b.worker.work (taking a.worker.seen ++ Begin k ∷ [])
    pub given_same : given b.worker.work ≡ given a.worker.work

  -- a step with this answer: where nothing waited no pair was dealt with
  abbrev pub DealsOutBy : Ran → ValueWorkerState V W → ValueWorkerState V W → Type 0
  DealsOutBy Nothing a b = b.unqueued ≡ a.unqueued
  DealsOutBy r a b = DealsOut a b

  -- one step of any kind: a run, by which what it asked for was dealt out; or a step that runs nothing and leaves the work and the
  -- pairs as they were
  pub data DealsInStep (a b : ValueWorkerState V W) : Type 0 where
    runs : (r : Ran) → RunsBy (MayLeave may takes) (GivesBack takes) r a.worker b.worker → DealsOutBy r a b
        → Learnt (owner_in a) (owner_in b) → DealsInStep a b
    keeps : (es : List Event) → RunsNothing es → Moves es 0 a.worker b.worker → LeavesWork a.worker b.worker → b.unqueued ≡ a.unqueued
        → Learnt (owner_in a) (owner_in b) → DealsInStep a b

  -- The worker went on, step by step, until its queue had run to the end, and was taken apart: this is the work that it left, the
  -- book of its queue, and what the numbers of that brought. Nothing came behind the last step: the book has its history.
  pub record DealsToEnd (a : ValueWorkerState V W) (work : W) (book : BookState) (brought : List (Option V)) : Type 0 where
    pub last : ValueWorkerState V W
    pub along : Along DealsInStep a last
    pub complete : IsComplete last.worker.seen
    pub work_is : work ≡ last.worker.work
    pub book_is : IsBookOf last.worker book
    pub brought_is : brought ≡ last.brought

-- the first of the pairs that are left is contended
abbrev pub IsOwedPair : {V W : Type 0} → ValueWorkerState V W → Type 0
IsOwedPair {V} b = (k : ℕ) × (v : V) × (more : List (ℕ × V)) × (b.unqueued ≡ (k, v) ∷ more)
    × IsContended b.worker.number k b.worker.tries b.worker.seen
