-- The answers of a seat's calls as numbers. A word has a code in its low 32 bits and, above them, a number where the answer has one.
use Rattle.std.specs.Prelude.{◌≡◌, ℕ, ◌*◌, Bool, true, false, Result, Ok, Err, List, [], ◌∷◌, get_or}
use Rattle.wq_words.specs.declared.answer.Answer.{Answer}
use Rattle.wq_words.specs.declared.answer.Answer.TheVariants as answer
use Rattle.wq_words.specs.declared.layout.LayoutError.TheVariants as layout
use Rattle.wq_calls.specs.declared.counts.SenderCounts.{SenderCounts}
use Rattle.wq_calls.specs.declared.counts.OwnerCounts.{OwnerCounts}
use Rattle.wq_live.specs.Counts.{sender_counts, owner_counts}
use Rattle.wq_seats.specs.declared.error.SeatError.{SeatError}
use Rattle.wq_seats.specs.declared.error.SeatError.TheVariants as error
use Rattle.wq_seats.specs.declared.seat.Seat.{Seat}
use Rattle.wq_seats.specs.declared.seat.Seat.TheVariants as seat
use Rattle.wq_seats.specs.Made.{DidBuild, DidHandOut, DidRelease}
use Rattle.wq_seats.specs.Sent.{DidQueue, DidFlush, DidStop, DidCheck, DidCheckFlush, DidSetSpins, DidTellNumber}
use Rattle.wq_seats.specs.Owned.{DidTake, DidClose, DidDrain, DidResume, DidTellNext, DidTellWaiting, DidBegin, DidEnd, DidRest, DidChain, DidTellDone}

abbrev pub error_code : SeatError → ℕ
error_code error.NotSender = 64
error_code error.NotOwner = 65
error_code error.NoItem = 66
error_code error.NoBarrier = 67
error_code error.NoTries = 68
error_code error.Closed = 69
error_code error.Draining = 70
error_code error.NotDraining = 71
error_code error.Open = 72
error_code error.SomeWait = 73
error_code error.NoneWaits = 74
error_code error.Running = 75
error_code error.NoneRuns = 76
error_code error.InUse = 77
error_code error.NoSender = 78
error_code error.NotDone = 79
error_code error.Memory = 80
error_code (error.Layout layout.Items) = 81
error_code (error.Layout layout.Barriers) = 82
error_code (error.Layout layout.Senders) = 83

-- a queueing that was accepted: 1, with 2 more where it was the first and 4 more where it wakes
abbrev pub answer_code : Result Answer SeatError → ℕ
answer_code (Ok (answer.Queued false false)) = 1
answer_code (Ok (answer.Queued true false)) = 3
answer_code (Ok (answer.Queued false true)) = 5
answer_code (Ok (answer.Queued true true)) = 7
answer_code (Ok answer.Pending) = 8
answer_code (Ok answer.Closed) = 9
answer_code (Ok answer.Draining) = 10
answer_code (Ok answer.Contended) = 11
answer_code (Err error) = error_code error

abbrev pub truth_code : Result Bool SeatError → ℕ
truth_code (Ok false) = 12
truth_code (Ok true) = 13
truth_code (Err error) = error_code error

abbrev pub success_code : Result (Unit {0}) SeatError → ℕ
success_code (Ok _) = 0
success_code (Err error) = error_code error

abbrev pub word_of_number : Result ℕ SeatError → ℕ
word_of_number (Ok number) = number * 4294967296
word_of_number (Err error) = error_code error

-- the word of an answer of which this is said
pub record SaidAs {A : Type 0} (word_of : A → ℕ) (did : A → Type 0) (word : ℕ) : Type 0 where
  pub said : A
  pub word_is : word ≡ word_of said
  pub did_so : did said

abbrev pub SaidBuild : ℕ → ℕ → ℕ → ℕ → Seat → Seat → Type 0
SaidBuild items barriers senders word old new = SaidAs success_code (λ said. DidBuild items barriers senders said old new) word

abbrev pub SaidHandOut : ℕ → Seat → Seat → Seat → Seat → Type 0
SaidHandOut word old other new other_now = SaidAs success_code (λ said. DidHandOut said old other new other_now) word

abbrev pub SaidRelease : ℕ → Seat → Seat → Type 0
SaidRelease word old new = SaidAs success_code (λ said. DidRelease said old new) word

abbrev pub SaidQueue : ℕ → ℕ → ℕ → Seat → Seat → Type 0
SaidQueue item tries word old new = SaidAs answer_code (λ said. DidQueue item tries said old new) word

abbrev pub SaidFlush : ℕ → ℕ → ℕ → Seat → Seat → Type 0
SaidFlush barrier tries word old new = SaidAs answer_code (λ said. DidFlush barrier tries said old new) word

abbrev pub SaidStop : ℕ → ℕ → Seat → Seat → Type 0
SaidStop tries word old new = SaidAs answer_code (λ said. DidStop tries said old new) word

abbrev pub SaidCheck : ℕ → ℕ → Seat → Seat → Type 0
SaidCheck item word old new = SaidAs truth_code (λ said. DidCheck item said old new) word

abbrev pub SaidCheckFlush : ℕ → ℕ → Seat → Seat → Type 0
SaidCheckFlush barrier word old new = SaidAs truth_code (λ said. DidCheckFlush barrier said old new) word

abbrev pub SaidSetSpins : ℕ → Seat → Seat → Type 0
SaidSetSpins word old new = SaidAs success_code (λ said. DidSetSpins said old new) word

abbrev pub SaidNumber : ℕ → Seat → Seat → Type 0
SaidNumber word old new = SaidAs word_of_number (λ said. DidTellNumber said old × (new ≡ old)) word

abbrev pub SaidTake : ℕ → Seat → Seat → Type 0
SaidTake word old new = SaidAs word_of_number (λ said. DidTake said old new) word

abbrev pub SaidClose : ℕ → Seat → Seat → Type 0
SaidClose word old new = SaidAs word_of_number (λ said. DidClose said old new) word

abbrev pub SaidDrain : ℕ → Seat → Seat → Type 0
SaidDrain word old new = SaidAs word_of_number (λ said. DidDrain said old new) word

abbrev pub SaidResume : ℕ → Seat → Seat → Type 0
SaidResume word old new = SaidAs success_code (λ said. DidResume said old new) word

abbrev pub SaidNext : ℕ → Seat → Seat → Type 0
SaidNext word old new = SaidAs word_of_number (λ said. DidTellNext said old × (new ≡ old)) word

abbrev pub SaidWaiting : ℕ → Seat → Seat → Type 0
SaidWaiting word old new = SaidAs word_of_number (λ said. DidTellWaiting said old × (new ≡ old)) word

abbrev pub SaidBegin : ℕ → Seat → Seat → Type 0
SaidBegin word old new = SaidAs word_of_number (λ said. DidBegin said old new) word

abbrev pub SaidEnd : ℕ → Seat → Seat → Type 0
SaidEnd word old new = SaidAs success_code (λ said. DidEnd said old new) word

abbrev pub SaidRest : ℕ → Seat → Seat → Type 0
SaidRest word old new = SaidAs truth_code (λ said. DidRest said old new) word

abbrev pub SaidChain : ℕ → ℕ → Seat → Seat → Type 0
SaidChain item word old new = SaidAs answer_code (λ said. DidChain item said old new) word

abbrev pub SaidDone : ℕ → Seat → Seat → Type 0
SaidDone word old new = SaidAs truth_code (λ said. DidTellDone said old × (new ≡ old)) word

-- the counts of a sender, and those of an owner, which stand behind them
abbrev pub counts_of_sender : SenderCounts → List ℕ
counts_of_sender c = c.queued ∷ c.pending ∷ c.closed ∷ c.draining ∷ c.contended ∷ []

abbrev pub counts_of_owner : OwnerCounts → List ℕ
counts_of_owner c = 0 ∷ 0 ∷ 0 ∷ 0 ∷ 0 ∷ c.chained ∷ c.chain_busy ∷ c.ended ∷ []

-- what a seat has counted of its own events
abbrev pub counts_in : Seat → List ℕ
counts_in seat.Vacant = []
counts_in (seat.Sender it) = counts_of_sender (sender_counts it.number it.seen)
counts_in (seat.Owner it left) = counts_of_owner (owner_counts it.seen)

-- the count at this place, or 0 where it has none, and the seat is as it was
abbrev pub SaidCount : ℕ → ℕ → Seat → Seat → Type 0
SaidCount which word old new = (word ≡ get_or (counts_in old) which 0) × (new ≡ old)
