-- What seats have counted, summed.
use Rattle.std.specs.Prelude.{ℕ, ◌+◌, ◌^◌, ◌<◌, List}
use Rattle.wq_words.specs.declared.event.Event.{Event}
use Rattle.wq_calls.specs.declared.counts.SenderCounts.{SenderCounts}
use Rattle.wq_calls.specs.declared.counts.OwnerCounts.{OwnerCounts}
use Rattle.wq_live.specs.Counts.{sender_counts, owner_counts}
use Rattle.wq_ledger.specs.declared.totals.Totals.{Totals}

-- the counts of a sender and of the owner; an item that a chaining found pending counts as pending
abbrev pub totals_of : SenderCounts → OwnerCounts → Totals
totals_of sender owner = record {
  queued = sender.queued;
  chained = owner.chained;
  executed = owner.ended;
  pending = sender.pending + owner.chain_busy;
  closed = sender.closed;
  draining = sender.draining;
  contended = sender.contended;
}

-- the counts of a worker's two seats, the sender s and the owner, in this history
abbrev pub own_totals : ℕ → List Event → Totals
own_totals s h = totals_of (sender_counts s h) (owner_counts h)

-- nothing counted
abbrev pub none : Totals
none = record { queued = 0; chained = 0; executed = 0; pending = 0; closed = 0; draining = 0; contended = 0 }

-- with one sender more
abbrev pub with_sender : SenderCounts → Totals → Totals
with_sender counts t = record {
  queued = t.queued + counts.queued;
  chained = t.chained;
  executed = t.executed;
  pending = t.pending + counts.pending;
  closed = t.closed + counts.closed;
  draining = t.draining + counts.draining;
  contended = t.contended + counts.contended;
}

-- with what the owner did
abbrev pub with_owner : OwnerCounts → Totals → Totals
with_owner counts t = record {
  queued = t.queued;
  chained = counts.chained;
  executed = counts.ended;
  pending = t.pending + counts.chain_busy;
  closed = t.closed;
  draining = t.draining;
  contended = t.contended;
}

-- there is room for one sender more
abbrev pub HasRoom : Totals → Type 0
HasRoom t = (t.queued < 2 ^ 127) × (t.pending < 2 ^ 127) × (t.closed < 2 ^ 127) × (t.draining < 2 ^ 127) × (t.contended < 2 ^ 127)

-- by less than one sender can count
abbrev pub HasGrown : Totals → Totals → Type 0
HasGrown t u = (u.queued < t.queued + 2 ^ 64) × (u.pending < t.pending + 2 ^ 64) × (u.closed < t.closed + 2 ^ 64)
    × (u.draining < t.draining + 2 ^ 64) × (u.contended < t.contended + 2 ^ 64)
