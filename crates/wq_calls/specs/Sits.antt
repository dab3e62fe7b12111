-- A sender's and an owner's fields, as a clause sees them.
use Rattle.std.specs.Prelude.{◌≡◌, ℕ, ◌<◌, if◌then◌else◌, List, [], ◌∷◌, ◌++◌, Option, Some, None}
use Rattle.wq_words.specs.History.{closed, shut, running}
use Rattle.wq_words.specs.declared.event.Event.{Event}
use Rattle.wq_words.specs.declared.layout.Layout.{Layout}
use Rattle.wq_words.specs.Legal.{IsLegal}
use Rattle.wq_core.specs.Machine.{Machine}
use Rattle.wq_core.specs.Sound.{IsSound}
use Rattle.wq_table.specs.declared.table.Part.{Part}
use Rattle.wq_table.specs.declared.table.Stage.{Stage}
use Rattle.wq_table.specs.declared.table.Stage.TheVariants as stage
use Rattle.wq_words.specs.Seen.{owner_seat, Grows}
use Rattle.wq_table.specs.Law.{IsPartOf}
use Rattle.wq_table.specs.Chair.{Standing, part_at, IsSender}
use Rattle.wq_table.specs.SlotChairs.{ValueStanding, standing_of}
use Rattle.wq_calls.specs.declared.counts.SenderCounts.{SenderCounts}
use Rattle.wq_calls.specs.declared.counts.OwnerCounts.{OwnerCounts}
use Rattle.wq_calls.specs.declared.sent.Sent.{Sent}
use Rattle.wq_calls.specs.declared.owner_seat.OwnerSeat.{OwnerSeat}
use Rattle.wq_calls.specs.declared.owner_seat.Phase.{Phase}
use Rattle.wq_calls.specs.declared.owner_seat.Phase.TheVariants.{Open, Draining, Closed}
use Rattle.wq_calls.specs.declared.row.Row.{Row}
use Rattle.wq_calls.specs.Row.{IsRowOf}
use Rattle.wq_calls.specs.Known.{Known}
use Rattle.wq_calls.specs.Counts.{sender_counts, owner_counts}

-- a sender: its part of a chair, and what it keeps beside it
pub record Sending : Type 0 where
  pub chair : Standing
  pub layout : Layout
  pub number : ℕ
  pub counts : SenderCounts

-- the chair without all parts but the one at this place
abbrev pub alone_at : ℕ → Standing → Standing
alone_at at it = record { queue = it.queue; part = part_at at it; others = [] }

abbrev pub sending : ℕ → Standing → Sent → Sending
sending at it sent = record { chair = alone_at at it; layout = sent.layout; number = sent.number; counts = sent.counts }

-- the same of a chair that may have slots in hand
abbrev pub sending_in : {V : Type 0} → ℕ → ValueStanding V → Sent → Sending
sending_in at it sent = sending at (standing_of it) sent

abbrev pub sender_view : Sending → Known
sender_view s = record { queue = s.chair.queue; layout = s.layout; number = s.number; seen = s.chair.part.seen }

-- the part is a sender's, one of its queue's, and what is kept beside it is of what it has seen
pub record Sends (s : Sending) : Type 0 where
  pub layout_is : s.chair.part.layout ≡ s.layout
  pub number_is : s.chair.part.seat ≡ s.number
  pub low : s.number < s.layout.senders
  pub stage : IsSender s.chair.part.stage
  pub legal : IsLegal s.layout s.chair.part.seen
  pub counts_are : s.counts ≡ sender_counts s.number s.chair.part.seen

-- an owner: its chair, and what it keeps beside it
pub record Owning : Type 0 where
  pub chair : Standing
  pub layout : Layout
  pub row : Row
  pub running : Option ℕ
  pub phase : Phase
  pub counts : OwnerCounts

abbrev pub owning : {V : Type 0} → OwnerSeat V → Owning
owning s = record {
  chair = standing_of s.chair;
  layout = s.layout;
  row = s.row;
  running = s.running;
  phase = s.phase;
  counts = s.counts;
}

abbrev pub owner_view : Owning → Known
owner_view s = record { queue = s.chair.queue; layout = s.layout; number = owner_seat; seen = s.chair.part.seen }

-- whether the queue takes pushes
abbrev pub phase : List Event → Phase
phase h = if closed h then Closed else (if shut h then Draining else Open)

-- a machine stood like this when the seat saw all that had happened
pub record Stands (p : Part) : Type 0 where
  pub machine : Machine
  pub sound : IsSound machine
  pub fits : IsPartOf machine p
  pub seen_is : p.seen ≡ machine.history

-- what the owner keeps as its batch
abbrev pub kept_batch : Stage → List ℕ
kept_batch (stage.Sends p) = []
kept_batch (stage.Owns cursor walked batch) = batch

-- the owner has walked all that it took, and the row has its batch
pub record HasRow (row : Row) (p : Part) : Type 0 where
  pub stage_is : p.stage ≡ stage.Owns None [] (kept_batch p.stage)
  pub row_is : IsRowOf p.words row (kept_batch p.stage)

-- the chair's first part is the owner's, the row has its batch, and what is kept beside it is of what it has seen
pub record OwnsQueue (s : Owning) : Type 0 where
  pub layout_is : s.chair.part.layout ≡ s.layout
  pub number_is : s.chair.part.seat ≡ owner_seat
  pub stands : Stands s.chair.part
  pub has_row : HasRow s.row s.chair.part
  pub running_is : s.running ≡ running s.chair.part.seen
  pub phase_is : s.phase ≡ phase s.chair.part.seen
  pub counts_are : s.counts ≡ owner_counts s.chair.part.seen

-- what the owner keeps while it walks what it took, where the link that it found last leads to this number, or to none
abbrev pub walking : Option ℕ → List ℕ → List ℕ → Stage
walking None walked batch = stage.Owns None [] (batch ++ walked)
walking (Some next) walked batch = stage.Owns (Some next) walked batch

-- From p to q what was taken was walked and turned: it stands behind the batch ks, and the row has it. The row of the batch
-- has it still.
pub record Turned (ks : List ℕ) (row : Row) (p q : Part) : Type 0 where
  pub taken : List ℕ
  pub stage_is : q.stage ≡ stage.Owns None [] (ks ++ taken)
  pub row_is : IsRowOf q.words row taken
  pub old_row : (r : Row) → IsRowOf p.words r ks → IsRowOf q.words r ks

-- the batch is what one row has and, behind it, what the other has
pub record HasBoth (row more : Row) (p : Part) : Type 0 where
  pub front : List ℕ
  pub back : List ℕ
  pub stage_is : p.stage ≡ stage.Owns None [] (front ++ back)
  pub front_is : IsRowOf p.words row front
  pub back_is : IsRowOf p.words more back

-- the batch is k and, behind it, what the row has
pub record HasFirst (k : ℕ) (rest : Row) (p : Part) : Type 0 where
  pub others : List ℕ
  pub stage_is : p.stage ≡ stage.Owns None [] (k ∷ others)
  pub row_is : IsRowOf p.words rest others

-- the same seat has seen more, and made no event
pub record OnlySees (p q : Part) : Type 0 where
  pub layout_is : q.layout ≡ p.layout
  pub seat_is : q.seat ≡ p.seat
  pub grows : Grows p.seat [] 0 p.seen q.seen
