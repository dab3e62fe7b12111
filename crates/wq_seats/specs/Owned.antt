-- What an owner's calls did, by their answers. Where one was refused, the owner is as it was.
use Rattle.std.specs.Prelude.{◌≡◌, ◌≢◌, ℕ, ◌<◌, ◌≤◌, ◌↔◌, Bool, false, [], ◌∷◌, length, Some, Result, Ok, Err, IsTrue}
use Rattle.wq_words.specs.declared.event.Event.{Event}
use Rattle.wq_words.specs.declared.event.Event.TheVariants.{Take, Close, Drain, Resume, Begin, End}
use Rattle.wq_words.specs.declared.answer.Answer.{Answer}
use Rattle.wq_words.specs.History.{IsClosed, IsShut, IsDraining, IsRunning, running}
use Rattle.wq_words.specs.Legal.{IsComplete}
use Rattle.wq_live.specs.Known.{Known, IsSame, Sees}
use Rattle.wq_live.specs.Answers.{Chains}
use Rattle.wq_live.specs.Batch.{batch, next_of, TakesAll}
use Rattle.wq_live.specs.Rest.{Rests, HasRested, MayNotRest}
use Rattle.wq_calls.specs.declared.counts.OwnerCounts.{OwnerCounts}
use Rattle.wq_live.specs.Counts.{owner_counts}
use Rattle.wq_seats.specs.declared.error.SeatError.{SeatError}
use Rattle.wq_seats.specs.declared.error.SeatError.TheVariants as error
use Rattle.wq_seats.specs.declared.seat.Seat.{Seat}
use Rattle.wq_seats.specs.Seats.{ByOwner, OfOwner}

-- the owner's event took all that stood on the list, so many numbers
pub record HasTaken (e : Event) (count : ℕ) (old new : Known) : Type 0 where
  pub events : Sees (e ∷ []) 0 old new
  pub all : TakesAll e count new.seen

abbrev pub TakesList : Result ℕ SeatError → Known → Known → Type 0
TakesList (Ok count) old new = (¬ IsShut old.seen) × (batch old.seen ≡ []) × HasTaken Take count old new
TakesList (Err error.Closed) old new = IsClosed old.seen × (new ≡ old)
TakesList (Err error.Draining) old new = IsDraining old.seen × (new ≡ old)
TakesList (Err error.SomeWait) old new = (¬ IsShut old.seen) × (batch old.seen ≢ []) × (new ≡ old)
TakesList (Err _) old new = ⊥

abbrev pub ClosesQueue : Result ℕ SeatError → Known → Known → Type 0
ClosesQueue (Ok count) old new = (¬ IsClosed old.seen) × HasTaken Close count old new
ClosesQueue (Err error.Closed) old new = IsClosed old.seen × (new ≡ old)
ClosesQueue (Err _) old new = ⊥

abbrev pub DrainsQueue : Result ℕ SeatError → Known → Known → Type 0
DrainsQueue (Ok count) old new = (¬ IsShut old.seen) × HasTaken Drain count old new
DrainsQueue (Err error.Closed) old new = IsClosed old.seen × (new ≡ old)
DrainsQueue (Err error.Draining) old new = IsDraining old.seen × (new ≡ old)
DrainsQueue (Err _) old new = ⊥

abbrev pub ResumesQueue : Result (Unit {0}) SeatError → Known → Known → Type 0
ResumesQueue (Ok _) old new = IsDraining old.seen × (batch old.seen ≡ []) × (¬ IsRunning old.seen) × Sees (Resume ∷ []) 0 old new
ResumesQueue (Err error.NotDraining) old new = (¬ IsDraining old.seen) × (new ≡ old)
ResumesQueue (Err error.SomeWait) old new = IsDraining old.seen × (batch old.seen ≢ []) × (new ≡ old)
ResumesQueue (Err error.Running) old new = IsDraining old.seen × (batch old.seen ≡ []) × IsRunning old.seen × (new ≡ old)
ResumesQueue (Err _) old new = ⊥

-- the oldest number that was taken and has not begun
abbrev pub TellsNext : Result ℕ SeatError → Known → Type 0
TellsNext (Ok number) now = next_of now.seen ≡ Some number
TellsNext (Err error.NoneWaits) now = batch now.seen ≡ []
TellsNext (Err _) now = ⊥

-- how many numbers were taken and have not begun
abbrev pub TellsWaiting : Result ℕ SeatError → Known → Type 0
TellsWaiting (Ok count) now = count ≡ length (batch now.seen)
TellsWaiting (Err _) now = ⊥

abbrev pub BeginsNext : Result ℕ SeatError → Known → Known → Type 0
BeginsNext (Ok number) old new =
    (¬ IsRunning old.seen) × (next_of old.seen ≡ Some number) × Sees (Begin number ∷ []) 0 old new × (running new.seen ≡ Some number)
BeginsNext (Err error.Running) old new = IsRunning old.seen × (new ≡ old)
BeginsNext (Err error.NoneWaits) old new = (¬ IsRunning old.seen) × (batch old.seen ≡ []) × (new ≡ old)
BeginsNext (Err _) old new = ⊥

abbrev pub EndsRunning : Result (Unit {0}) SeatError → Known → Known → Type 0
EndsRunning (Ok _) old new = IsRunning old.seen × ((k : ℕ) → running old.seen ≡ Some k → Sees (End k ∷ []) 0 old new) × (¬ IsRunning new.seen)
EndsRunning (Err error.NoneRuns) old new = (¬ IsRunning old.seen) × (new ≡ old)
EndsRunning (Err _) old new = ⊥

-- the owner's rest: whether the queue rests by it
pub record HasTriedToRest (rests : Bool) (old new : Known) : Type 0 where
  pub events : Rests rests old new
  pub rested : IsTrue rests → HasRested new.seen
  pub refused : rests ≡ false → MayNotRest new.seen
  pub same : IsSame old new

abbrev pub RestsQueue : Result Bool SeatError → Known → Known → Type 0
RestsQueue (Ok rests) old new = (¬ IsShut old.seen) × (batch old.seen ≡ []) × (¬ IsRunning old.seen) × HasTriedToRest rests old new
RestsQueue (Err error.Closed) old new = IsClosed old.seen × (new ≡ old)
RestsQueue (Err error.Draining) old new = IsDraining old.seen × (new ≡ old)
RestsQueue (Err error.SomeWait) old new = (¬ IsShut old.seen) × (batch old.seen ≢ []) × (new ≡ old)
RestsQueue (Err error.Running) old new = (¬ IsShut old.seen) × (batch old.seen ≡ []) × IsRunning old.seen × (new ≡ old)
RestsQueue (Err _) old new = ⊥

abbrev pub ChainsItem : ℕ → Result Answer SeatError → Known → Known → Type 0
ChainsItem item (Ok answer) old new =
    (item < old.layout.items) × IsShut old.seen × IsRunning old.seen × Chains item answer old new × IsSame old new
ChainsItem item (Err error.NoItem) old new = (old.layout.items ≤ item) × (new ≡ old)
ChainsItem item (Err error.Open) old new = (item < old.layout.items) × (¬ IsShut old.seen) × (new ≡ old)
ChainsItem item (Err error.NoneRuns) old new = (item < old.layout.items) × IsShut old.seen × (¬ IsRunning old.seen) × (new ≡ old)
ChainsItem item (Err _) old new = ⊥

-- whether the queue is closed and has run to its end
abbrev pub TellsDone : Result Bool SeatError → Known → Type 0
TellsDone (Ok is_done) now = IsTrue is_done ↔ IsComplete now.seen
TellsDone (Err _) now = ⊥

-- what it has counted of its own events
abbrev pub TellsExecuted : Result OwnerCounts SeatError → Known → Type 0
TellsExecuted (Ok counts) now = counts ≡ owner_counts now.seen
TellsExecuted (Err _) now = ⊥

abbrev pub DidTake : Result ℕ SeatError → Seat → Seat → Type 0
DidTake = ByOwner TakesList

abbrev pub DidClose : Result ℕ SeatError → Seat → Seat → Type 0
DidClose = ByOwner ClosesQueue

abbrev pub DidDrain : Result ℕ SeatError → Seat → Seat → Type 0
DidDrain = ByOwner DrainsQueue

abbrev pub DidResume : Result (Unit {0}) SeatError → Seat → Seat → Type 0
DidResume = ByOwner ResumesQueue

abbrev pub DidTellNext : Result ℕ SeatError → Seat → Type 0
DidTellNext = OfOwner TellsNext

abbrev pub DidTellWaiting : Result ℕ SeatError → Seat → Type 0
DidTellWaiting = OfOwner TellsWaiting

abbrev pub DidBegin : Result ℕ SeatError → Seat → Seat → Type 0
DidBegin = ByOwner BeginsNext

abbrev pub DidEnd : Result (Unit {0}) SeatError → Seat → Seat → Type 0
DidEnd = ByOwner EndsRunning

abbrev pub DidRest : Result Bool SeatError → Seat → Seat → Type 0
DidRest = ByOwner RestsQueue

abbrev pub DidChain : ℕ → Result Answer SeatError → Seat → Seat → Type 0
DidChain item = ByOwner (ChainsItem item)

abbrev pub DidTellDone : Result Bool SeatError → Seat → Type 0
DidTellDone = OfOwner TellsDone

abbrev pub DidTellExecuted : Result OwnerCounts SeatError → Seat → Type 0
DidTellExecuted = OfOwner TellsExecuted
