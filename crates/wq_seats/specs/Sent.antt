-- What a sender's calls did, by their answers. Where one was refused, the sender is as it was.
use Rattle.std.specs.Prelude.{◌≡◌, ℕ, ◌<◌, ◌≤◌, Bool, not, [], Result, Ok, Err, IsTrue}
use Rattle.wq_words.specs.History.{pending}
use Rattle.wq_words.specs.Numbers.{barrier_number, stop_number}
use Rattle.wq_words.specs.declared.answer.Answer.{Answer}
use Rattle.wq_words.specs.declared.answer.Answer.TheVariants.{Contended}
use Rattle.wq_live.specs.Known.{Known, IsSame, Sees}
use Rattle.wq_live.specs.Answers.{Answers, IsContended, HasFlushed}
use Rattle.wq_calls.specs.declared.counts.SenderCounts.{SenderCounts}
use Rattle.wq_live.specs.Counts.{sender_counts}
use Rattle.wq_seats.specs.declared.error.SeatError.{SeatError}
use Rattle.wq_seats.specs.declared.error.SeatError.TheVariants as error
use Rattle.wq_seats.specs.declared.seat.Seat.{Seat}
use Rattle.wq_seats.specs.Seats.{BySender, OfSender}

-- a queueing of the number k, with so many tries
pub record HasAnswered (k tries : ℕ) (answer : Answer) (old new : Known) : Type 0 where
  pub events : Answers k tries answer old new
  pub contended : answer ≡ Contended → IsContended old.number k tries new.seen
  pub same : IsSame old new

abbrev pub QueuesItem : ℕ → ℕ → Result Answer SeatError → Known → Known → Type 0
QueuesItem item tries (Ok answer) old new = (item < old.layout.items) × (0 < tries) × HasAnswered item tries answer old new
QueuesItem item tries (Err error.NoItem) old new = (old.layout.items ≤ item) × (new ≡ old)
QueuesItem item tries (Err error.NoTries) old new = (item < old.layout.items) × (tries ≡ 0) × (new ≡ old)
QueuesItem item tries (Err _) old new = ⊥

abbrev pub QueuesBarrier : ℕ → ℕ → Result Answer SeatError → Known → Known → Type 0
QueuesBarrier barrier tries (Ok answer) old new =
    (barrier < old.layout.barriers) × (0 < tries) × HasAnswered (barrier_number old.layout barrier) tries answer old new
QueuesBarrier barrier tries (Err error.NoBarrier) old new = (old.layout.barriers ≤ barrier) × (new ≡ old)
QueuesBarrier barrier tries (Err error.NoTries) old new = (barrier < old.layout.barriers) × (tries ≡ 0) × (new ≡ old)
QueuesBarrier barrier tries (Err _) old new = ⊥

abbrev pub QueuesStop : ℕ → Result Answer SeatError → Known → Known → Type 0
QueuesStop tries (Ok answer) old new = (0 < tries) × HasAnswered (stop_number old.layout) tries answer old new
QueuesStop tries (Err error.NoTries) old new = (tries ≡ 0) × (new ≡ old)
QueuesStop tries (Err _) old new = ⊥

-- the item's PENDING bit
abbrev pub ChecksItem : ℕ → Result Bool SeatError → Known → Known → Type 0
ChecksItem item (Ok is_set) old new = (item < old.layout.items) × Sees [] 0 old new × (is_set ≡ pending new.seen item)
ChecksItem item (Err error.NoItem) old new = (old.layout.items ≤ item) × (new ≡ old)
ChecksItem item (Err _) old new = ⊥

-- whether the barrier's PENDING bit is clear: all that was accepted before any push of that barrier has then ended
abbrev pub ChecksBarrier : ℕ → Result Bool SeatError → Known → Known → Type 0
ChecksBarrier barrier (Ok is_done) old new =
    (barrier < old.layout.barriers) × Sees [] 0 old new × (is_done ≡ not (pending new.seen (barrier_number old.layout barrier)))
    × (IsTrue is_done → HasFlushed (barrier_number old.layout barrier) new.seen)
ChecksBarrier barrier (Err error.NoBarrier) old new = (old.layout.barriers ≤ barrier) × (new ≡ old)
ChecksBarrier barrier (Err _) old new = ⊥

-- how long it gives way is time alone, of which nothing is said
abbrev pub SetsSpins : Result (Unit {0}) SeatError → Known → Known → Type 0
SetsSpins (Ok _) old new = new ≡ old
SetsSpins (Err _) old new = ⊥

abbrev pub TellsNumber : Result ℕ SeatError → Known → Type 0
TellsNumber (Ok number) now = number ≡ now.number
TellsNumber (Err _) now = ⊥

-- what it has counted of its own events
abbrev pub TellsSent : Result SenderCounts SeatError → Known → Type 0
TellsSent (Ok counts) now = counts ≡ sender_counts now.number now.seen
TellsSent (Err _) now = ⊥

abbrev pub DidQueue : ℕ → ℕ → Result Answer SeatError → Seat → Seat → Type 0
DidQueue item tries = BySender (QueuesItem item tries)

abbrev pub DidFlush : ℕ → ℕ → Result Answer SeatError → Seat → Seat → Type 0
DidFlush barrier tries = BySender (QueuesBarrier barrier tries)

abbrev pub DidStop : ℕ → Result Answer SeatError → Seat → Seat → Type 0
DidStop tries = BySender (QueuesStop tries)

abbrev pub DidCheck : ℕ → Result Bool SeatError → Seat → Seat → Type 0
DidCheck item = BySender (ChecksItem item)

abbrev pub DidCheckFlush : ℕ → Result Bool SeatError → Seat → Seat → Type 0
DidCheckFlush barrier = BySender (ChecksBarrier barrier)

abbrev pub DidSetSpins : Result (Unit {0}) SeatError → Seat → Seat → Type 0
DidSetSpins = BySender SetsSpins

abbrev pub DidTellNumber : Result ℕ SeatError → Seat → Type 0
DidTellNumber = OfSender TellsNumber

abbrev pub DidTellSent : Result SenderCounts SeatError → Seat → Type 0
DidTellSent = OfSender TellsSent
