-- The calls of a delay table, on the running words and in a script.
use Rattle.std.specs.Prelude.{◌≡◌, ℕ, ◌<◌, ◌≤◌, Bool, List, ◌++◌}
use Rattle.wq_words.specs.declared.layout.Layout.{Layout}
use Rattle.wq_words.specs.declared.event.Event.{Event}
use Rattle.wq_words.specs.declared.answer.Armed.{Armed}
use Rattle.wq_words.specs.declared.answer.Modified.{Modified}
use Rattle.wq_words.specs.DelayTable.{DelayTable, on_table, table_without}
use Rattle.wq_meaning.specs.Arming.{arm_events, arm_table, arm_answer, cancel_events, modify_events, modify_table, modify_answer}
use Rattle.wq_meaning.specs.Arming.{posted_items, advance_events, advance_table}
use Rattle.wq_meaning.specs.Commands.{delayer}
use Rattle.wq_script.specs.declared.seats.Seats.{Seats}
use Rattle.wq_script.specs.Seats.{IsSameWork, Seated}

-- this is the history now, and the table, and the work is as it was
pub record GoesWithTable (layout : Layout) (h : List Event) (now : DelayTable) (s t : Seats) : Type 0 where
  pub seated : Seated layout t h
  pub table : t.delay.table ≡ now
  pub work : IsSameWork s.worker t.worker

-- an arming is that of a script
abbrev pub ArmsAs : ℕ → ℕ → Armed → Seats → Seats → Type 0
ArmsAs item delay a s t =
    (layout : Layout) (h : List Event) → Seated layout s h → (a ≡ arm_answer item delay h s.delay.table)
    × GoesWithTable layout (h ++ arm_events (delayer layout) item delay h s.delay.table) (arm_table item delay h s.delay.table) s t

-- a cancelling is that of a script
abbrev pub CancelsAs : ℕ → Bool → Seats → Seats → Type 0
CancelsAs item was_on_table s t =
    (layout : Layout) (h : List Event) → Seated layout s h → (was_on_table ≡ on_table item s.delay.table.entries)
    × GoesWithTable layout (h ++ cancel_events (delayer layout) item s.delay.table) (table_without item s.delay.table) s t

-- a modification is that of a script
abbrev pub ModifiesAs : ℕ → ℕ → Modified → Seats → Seats → Type 0
ModifiesAs item delay a s t =
    (layout : Layout) (h : List Event) → Seated layout s h → (a ≡ modify_answer item delay h s.delay.table)
    × GoesWithTable layout (h ++ modify_events (delayer layout) item delay h s.delay.table) (modify_table item delay h s.delay.table) s t

-- the tick is before the present one, and nothing happened
abbrev pub IsBackwards : ℕ → Seats → Seats → Type 0
IsBackwards tick s t = (layout : Layout) (h : List Event) → Seated layout s h → (tick < s.delay.table.tick) × GoesWithTable layout h s.delay.table s t

-- these were due, and were posted: none while the queue drains
abbrev pub IsPosted : ℕ → List ℕ → Seats → Seats → Type 0
IsPosted tick posted s t =
    (layout : Layout) (h : List Event) → Seated layout s h → (s.delay.table.tick ≤ tick) × (posted ≡ posted_items tick h s.delay.table)
    × GoesWithTable layout (h ++ advance_events (delayer layout) tick h s.delay.table) (advance_table tick h s.delay.table) s t
