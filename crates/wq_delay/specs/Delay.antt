-- What a clause sees of a delay table, and what its calls do to it.
use Rattle.std.specs.Prelude.{◌≡◌, ℕ, ◌-◌, ◌<◌, ◌≤◌, min, ◌↔◌, ◌⊎◌, Bool, true, false, MatchBool, IsTrue, Result, Ok, Err, List, [], ◌∷◌, ◌++◌, map, length}
use Rattle.std.specs.Prelude.{count_by}
use Rattle.std.specs.List.{AllZip}
use Rattle.std.specs.List.Sorted.{IsPermutation}
use Rattle.wq_words.specs.declared.event.Event.{Event}
use Rattle.wq_words.specs.declared.event.Event.TheVariants.{Hold, Busy, Push, Back}
use Rattle.wq_words.specs.declared.event.Why.TheVariants as why
use Rattle.wq_words.specs.History.{Holds, is_push}
use Rattle.wq_words.specs.Legal.{IsLegal}
use Rattle.wq_words.specs.declared.answer.Posted.{Posted}
use Rattle.wq_words.specs.declared.answer.Posted.TheVariants as posted
use Rattle.wq_live.specs.Known.{Known, Sees}
use Rattle.wq_live.specs.Answers.{IsPushed, IsTurnedBack, HasMetDrain}
use Rattle.wq_words.specs.declared.answer.Armed.{Armed}
use Rattle.wq_words.specs.declared.answer.Armed.TheVariants as armed
use Rattle.wq_words.specs.declared.answer.Modified.{Modified}
use Rattle.wq_words.specs.declared.answer.Modified.TheVariants as modified
use Rattle.wq_delay.specs.declared.answer.Advance.{Advance}
use Rattle.wq_delay.specs.declared.answer.Backwards.{Backwards}
use Rattle.wq_words.specs.DelayTable.{Entry, DelayTable, on_table, due_part, IsOrdered, AreArmedBefore, table_with, table_without, table_at}

-- a sender, what it holds until its tick, and how many slots of its wheel the last advance counted as looked at
pub record DelayState : Type 0 where
  pub sender : Known
  pub table : DelayTable
  pub looked : ℕ

-- what holds of every delay table: the items on it are exactly the numbers that its sender holds
pub record FitsTable (sender : Known) (table : DelayTable) : Type 0 where
  pub ordered : IsOrdered table.entries
  pub armed : AreArmedBefore table.next table.entries
  pub held : (k : ℕ) → IsTrue (on_table k table.entries) ↔ Holds sender.seen sender.number k
  pub legal : IsLegal sender.layout sender.seen

abbrev pub IsFit : DelayState → Type 0
IsFit d = FitsTable d.sender d.table

-- an answered advance counted one slot for each of its ticks, or each slot once where that is fewer
abbrev pub Looks : Result Advance Backwards → ℕ → DelayState → DelayState → Type 0
Looks (Ok a) now old new = new.looked ≡ min (now - old.table.tick) 256
Looks (Err e) now old new = new.looked ≡ old.looked

-- The sender sees more, in which its own events are xs and at least n are of other seats. The table is this one now.
pub record Becomes (xs : List Event) (n : ℕ) (table : DelayTable) (old new : DelayState) : Type 0 where
  pub seen : Sees xs n old.sender new.sender
  pub table_is : new.table ≡ table

-- nothing changes but what the sender sees
abbrev pub KeepsTable : List Event → ℕ → DelayState → DelayState → Type 0
KeepsTable xs n old new = Becomes xs n old.table old new

-- the item k goes on the table t, due so many ticks from now
abbrev pub PutsOn : List Event → ℕ → ℕ → DelayTable → DelayState → DelayState → Type 0
PutsOn xs k delay t old new = Becomes xs 0 (table_with k delay t) old new

-- the item k leaves the table
abbrev pub TakesOff : List Event → ℕ → DelayState → DelayState → Type 0
TakesOff xs k old new = Becomes xs 0 (table_without k old.table) old new

-- an arming of the item k
abbrev pub Arms : ℕ → ℕ → ℕ → Armed → DelayState → DelayState → Type 0
Arms k delay tries (armed.Queued is_first wakes) old new =
    (delay ≡ 0) × KeepsTable (Hold old.sender.number k ∷ Push old.sender.number k ∷ []) 0 old new
    × IsPushed old.sender.number k is_first wakes new.sender.seen
Arms k delay tries armed.OnTable old new = (0 < delay) × PutsOn (Hold old.sender.number k ∷ []) k delay old.table old new
Arms k delay tries armed.Pending old new = KeepsTable (Busy old.sender.number k ∷ []) 0 old new
Arms k delay tries armed.Closed old new =
    (delay ≡ 0) × KeepsTable (Hold old.sender.number k ∷ Back old.sender.number k why.Closed ∷ []) 0 old new
Arms k delay tries armed.Contended old new =
    (delay ≡ 0) × KeepsTable (Hold old.sender.number k ∷ Back old.sender.number k why.Contended ∷ []) tries old new
Arms k delay tries armed.Draining old new =
    (delay ≡ 0) × KeepsTable (Hold old.sender.number k ∷ Back old.sender.number k why.Draining ∷ []) 0 old new
    × IsTurnedBack k old.sender new.sender
Arms k delay tries armed.TooFar old new = new ≡ old
Arms k delay tries armed.Memory old new =
    (0 < delay) × KeepsTable (Hold old.sender.number k ∷ Back old.sender.number k why.Cancelled ∷ []) 0 old new

-- a cancelling of the item k
abbrev pub Cancels : ℕ → Bool → DelayState → DelayState → Type 0
Cancels k true old new = (on_table k old.table.entries ≡ true) × TakesOff (Back old.sender.number k why.Cancelled ∷ []) k old new
Cancels k false old new = (on_table k old.table.entries ≡ false) × (new ≡ old)

-- a modification of the item k, which is on the table
abbrev pub Rearms : ℕ → ℕ → ℕ → Modified → DelayState → DelayState → Type 0
Rearms k delay tries modified.WasIdle old new = ⊥
Rearms k delay tries modified.Moved old new =
    ((delay ≡ 0) × TakesOff (Push old.sender.number k ∷ []) k old new) ⊎ ((0 < delay) × PutsOn [] k delay (table_without k old.table) old new)
Rearms k delay tries modified.Pending old new = ⊥
Rearms k delay tries modified.Closed old new = (delay ≡ 0) × TakesOff (Back old.sender.number k why.Closed ∷ []) k old new
Rearms k delay tries modified.Contended old new = (delay ≡ 0) × KeepsTable [] tries old new
Rearms k delay tries modified.Draining old new = (delay ≡ 0) × KeepsTable [] 0 old new × HasMetDrain old.sender.seen new.sender.seen
Rearms k delay tries modified.TooFar old new = new ≡ old
Rearms k delay tries modified.Memory old new = (0 < delay) × (new ≡ old)

-- a modification of the item k, which is not on the table: it is armed
abbrev pub ArmsAnew : ℕ → ℕ → ℕ → Modified → DelayState → DelayState → Type 0
ArmsAnew k delay tries modified.WasIdle old new =
    ((is_first : Bool) × (wakes : Bool) × Arms k delay tries (armed.Queued is_first wakes) old new) ⊎ Arms k delay tries armed.OnTable old new
ArmsAnew k delay tries modified.Moved old new = ⊥
ArmsAnew k delay tries modified.Pending old new = Arms k delay tries armed.Pending old new
ArmsAnew k delay tries modified.Closed old new = Arms k delay tries armed.Closed old new
ArmsAnew k delay tries modified.Contended old new = Arms k delay tries armed.Contended old new
ArmsAnew k delay tries modified.Draining old new = Arms k delay tries armed.Draining old new
ArmsAnew k delay tries modified.TooFar old new = Arms k delay tries armed.TooFar old new
ArmsAnew k delay tries modified.Memory old new = Arms k delay tries armed.Memory old new

abbrev pub Modifies : ℕ → ℕ → ℕ → Modified → DelayState → DelayState → Type 0
Modifies k delay tries answer old new = MatchBool (on_table k old.table.entries) (Rearms k delay tries answer old new) (ArmsAnew k delay tries answer old new)

-- sender s let the entry e go: it was pushed, or given back because the queue is closed
abbrev pub IsOut : ℕ → Entry → Event → Type 0
IsOut s e x = (x ≡ Push s e.item) ⊎ (x ≡ Back s e.item why.Closed)

abbrev pub is_back : Event → Bool
is_back (Back s k why) = true
is_back _ = false

-- Why what is left of the due part stays: there is nothing; or the post of its first, which began when the sender knew `mid`,
-- was contended, and at least as many events of other seats came within it as it had tries; or the queue drained within it.
pub data MayStay (left : List Entry) (tries : ℕ) (events : List Event) (old new : Known) : Type 0 where
  none : left ≡ [] → MayStay left tries events old new
  contended : (mid : Known) → Sees events 0 old mid → Sees [] tries mid new → MayStay left tries events old new
  draining : (mid : Known) → Sees events 0 old mid → Sees [] 0 mid new → HasMetDrain mid.seen new.seen → MayStay left tries events old new

-- The item k, which is on the table, is posted: it leaves the table, unless the post is contended or finds the queue draining.
abbrev pub PostsOne : ℕ → ℕ → Posted → DelayState → DelayState → Type 0
PostsOne k tries (posted.Queued is_first wakes) old new = TakesOff (Push old.sender.number k ∷ []) k old new
PostsOne k tries posted.Closed old new = TakesOff (Back old.sender.number k why.Closed ∷ []) k old new
PostsOne k tries posted.Contended old new = KeepsTable [] tries old new
PostsOne k tries posted.Draining old new = KeepsTable [] 0 old new × HasMetDrain old.sender.seen new.sender.seen

-- The due part at the tick t was posted in order from its beginning on. All of it was, unless a post was contended or found the
-- queue draining. What was not posted stays, before all that is due later.
pub record PostsDue (t tries : ℕ) (old new : DelayState) (pushed refused : ℕ) : Type 0 where
  pub gone : List Entry
  pub left : List Entry
  pub events : List Event
  pub due_is : due_part t old.table.entries ≡ gone ++ left
  pub table_is : new.table ≡ table_at t left old.table
  pub out : AllZip (IsOut old.sender.number) gone events
  pub seen : Sees events 0 old.sender new.sender
  pub stays : MayStay left tries events old.sender new.sender
  pub pushed_is : pushed ≡ count_by is_push events
  pub refused_is : refused ≡ count_by is_back events

-- the table is led on to the tick t, or that is before the present one
abbrev pub Advances : ℕ → ℕ → Result Advance Backwards → DelayState → DelayState → Type 0
Advances t tries (Ok a) old new =
    (old.table.tick ≤ t) × PostsDue t tries old new a.pushed a.refused × (a.waiting ≡ length new.table.entries)
Advances t tries (Err e) old new = (t < old.table.tick) × (new ≡ old)

-- all on the table is given back, in some order
pub record GivesAllBack (d : DelayState) (q : Known) : Type 0 where
  pub order : List Entry
  pub same : IsPermutation d.table.entries order
  pub seen : Sees (map (λ e. Back d.sender.number e.item why.Cancelled) order) 0 d.sender q
