-- The rule of a ready queue: what waits and what the passes know, at every moment.
use Rattle.std.specs.Prelude.{◌≡◌, ℕ, ◌+◌, ◌-◌, ◌<◌, ◌≤◌, List, [], ◌∷◌, ◌++◌, length}
use mathlib.Core.Option.{some}
use mathlib.Core.List.{IsPrefix}
use lib.ListN.{get_elem?}
use Rattle.wq_ready.specs.declared.size.Size.{Size}
use Rattle.wq_ready.specs.declared.event.ReadyEvent.{ReadyEvent}
use Rattle.wq_ready.specs.declared.event.ReadyEvent.TheVariants.{Announce, Pick}
use Rattle.wq_ready.specs.declared.rule.PassPart.{PassPart}
use Rattle.wq_ready.specs.History.{announced, picked}
use Rattle.wq_ready.specs.Legal.{IsReadyLegal}
use Rattle.wq_ready.specs.Seen.{own_ready, GrowsReady}

abbrev pub ready_part : Size → ℕ → ℕ → List ReadyEvent → PassPart
ready_part size first count seen = record { size = size; first = first; count = count; seen = seen }

-- the first pass, before it was told the size
abbrev pub opening_part : PassPart
opening_part = ready_part (record { queues = 0; callers = 0 }) 0 0 []

-- all callers of a new ready queue, none of them, and one
abbrev pub all_callers : Size → PassPart
all_callers size = ready_part size 0 size.callers []

abbrev pub no_caller : Size → PassPart
no_caller size = ready_part size 0 0 []

abbrev pub one_caller : Size → ℕ → List ReadyEvent → PassPart
one_caller size number seen = ready_part size number 1 seen

-- the first of the callers, and those behind it
abbrev pub first_caller : PassPart → PassPart
first_caller p = one_caller p.size p.first p.seen

abbrev pub later_callers : PassPart → PassPart
later_callers p = ready_part p.size (p.first + 1) (p.count - 1) p.seen

-- it speaks for the caller c
abbrev pub SpeaksFor : PassPart → ℕ → Type 0
SpeaksFor p c = (p.first ≤ c) × (c < p.first + p.count)

-- The pass with the number i knows a beginning of the history, with all events of the callers that it speaks for. The keeper
-- of a caller is the number of the pass that speaks for it.
pub record FitsReady (size : Size) (history : List ReadyEvent) (keeper : ℕ → ℕ) (i : ℕ) (p : PassPart) : Type 0 where
  pub size_is : p.size ≡ size
  pub within : p.first + p.count ≤ size.callers
  pub begins : IsPrefix p.seen history
  pub keeps : (c : ℕ) → SpeaksFor p c → keeper c ≡ i
  pub knows : (c : ℕ) → SpeaksFor p c → own_ready c history ≡ own_ready c p.seen

-- What waits is what one legal history has announced and not picked, and each pass fits to that history. Until the size is told
-- there is one pass.
pub record KeepsReady (size : Size) (waiting : List ℕ) (parts : List PassPart) : Type 0 where
  pub history : List ReadyEvent
  pub keeper : ℕ → ℕ
  pub legal : IsReadyLegal size history
  pub waits : announced history ≡ picked history ++ waiting
  pub fits : (i : ℕ) (p : PassPart) → get_elem? parts i ≡ some p → FitsReady size history keeper i p
  pub lone : size.queues ≡ 0 → length parts ≡ 1

abbrev pub KeptReady : List ℕ → List PassPart → Type 0
KeptReady waiting parts = (size : Size) × KeepsReady size waiting parts

-- the event happens, and the pass has seen it
pub record Happens (e : ReadyEvent) (old new : PassPart) : Type 0 where
  pub same : new ≡ ready_part old.size old.first old.count new.seen
  pub grows : GrowsReady old.first (e ∷ []) old.seen new.seen
  pub legal : IsReadyLegal new.size new.seen

abbrev pub announces : PassPart → ℕ → PassPart → Type 0
announces old q new = Happens (Announce old.first q) old new

abbrev pub picks : PassPart → ℕ → PassPart → Type 0
picks old q new = (q < old.size.queues) × Happens (Pick old.first q) old new

-- these wait after some legal history that goes on from what was seen, with no event of the first caller added
pub record CanWait (p : PassPart) (waiting : List ℕ) : Type 0 where
  pub history : List ReadyEvent
  pub grows : GrowsReady p.first [] p.seen history
  pub legal : IsReadyLegal p.size history
  pub waits : announced history ≡ picked history ++ waiting
