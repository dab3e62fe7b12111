-- A ready queue's and a caller's fields, as a clause sees them.
use Rattle.std.specs.Prelude.{◌≡◌, ◌<◌, []}
use Rattle.crossbeam_queue.specs.Passes.{view, ruled_capacity}
use Rattle.wq_ready.specs.declared.ready_queue.ReadyQueue.TheInside as ready
use Rattle.wq_ready.specs.declared.caller.Caller.TheInside as caller
use Rattle.wq_ready.specs.Legal.{IsReadyLegal}
use Rattle.wq_ready.specs.Known.{Identity, CallerState}
use Rattle.wq_ready.specs.Rule.{one_caller}

abbrev pub ready_view : ready.Inside → Identity
ready_view q = record { id = q.numbers.table.shared.table_id; size = q.size }

-- it has a place for each queue
pub record HasPlaces (q : ready.Inside) : Type 0 where
  pub room_is : ruled_capacity q.numbers ≡ q.size.queues

abbrev pub caller_view : caller.Inside → CallerState
caller_view c = record { ready = record { id = c.pass.table_id; size = (view c.pass).size }; number = c.number; seen = (view c.pass).seen }

-- the pass is this caller's alone, and what it has seen is legal
pub record Calls (c : caller.Inside) : Type 0 where
  pub rests : c.pass.me.1 ≡ []
  pub one : view c.pass ≡ one_caller (view c.pass).size c.number (view c.pass).seen
  pub within : c.number < (view c.pass).size.callers
  pub legal : IsReadyLegal (view c.pass).size (view c.pass).seen
