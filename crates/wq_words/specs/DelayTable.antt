-- The delay table: what waits for its tick, which of it is due, and what its calls make of it.
use Rattle.std.specs.Prelude.{◌≡◌, ℕ, ◌+◌, ◌-◌, ◌^◌, ◌<◌, ◌≤◌, ◌==◌, Bool, false, not, ◌||◌, nat_lt, nat_le, if◌then◌else◌, List, [], ◌∷◌, ◌++◌, map, filter}
use Rattle.std.specs.List.{list_any, AllByRecursion}

-- an item that waits for its tick, with the number of its arming
pub record Entry : Type 0 where
  pub due : ℕ
  pub arming : ℕ
  pub item : ℕ

-- what waits, in the order in which it goes out, the present tick, and the number of the next arming
pub record DelayTable : Type 0 where
  pub entries : List Entry
  pub tick : ℕ
  pub next : ℕ

-- the items in order
abbrev pub items : List Entry → List ℕ
items es = map (λ e. e.item) es

-- the item k is among them
abbrev pub on_table : ℕ → List Entry → Bool
on_table k es = list_any (λ e. k == e.item) es

-- the entries that are due at the tick t, and those that are not
abbrev pub due_part : ℕ → List Entry → List Entry
due_part t es = filter (λ e. nat_le e.due t) es

abbrev pub later_part : ℕ → List Entry → List Entry
later_part t es = filter (λ e. not (nat_le e.due t)) es

-- e stands behind all that are due no later
abbrev pub placed : Entry → List Entry → List Entry
placed e [] = e ∷ []
placed e (f ∷ fs) = if nat_lt e.due f.due then e ∷ f ∷ fs else f ∷ placed e fs

-- the entries without the item k
abbrev pub without : ℕ → List Entry → List Entry
without k es = filter (λ e. not (k == e.item)) es

-- e goes out before f: it is due earlier, or at the same tick and was armed earlier
abbrev pub IsBefore : Entry → Entry → Type 0
IsBefore e f = (e.due ≤ f.due) × (e.due ≡ f.due → e.arming < f.arming)

-- each goes out before those behind it, and no item stands twice
abbrev pub IsOrdered : List Entry → Type 0
IsOrdered [] = Unit {0}
IsOrdered (e ∷ es) = AllByRecursion (IsBefore e) es × (on_table e.item es ≡ false) × IsOrdered es

-- all were armed before the arming n
abbrev pub AreArmedBefore : ℕ → List Entry → Type 0
AreArmedBefore n es = AllByRecursion (λ e. e.arming < n) es

-- the delay is above its limit, or its tick after now or the next arming is above the largest number of 64 bits
abbrev pub is_too_far : ℕ → DelayTable → Bool
is_too_far delay t = nat_lt (2 ^ 32 - 1) delay || nat_lt (2 ^ 64 - 1) (t.tick + delay) || nat_lt (2 ^ 64 - 1) t.next

-- the item k is armed: it goes on the table with the next arming number, due so many ticks from now
abbrev pub table_with : ℕ → ℕ → DelayTable → DelayTable
table_with k delay t = record t {
  entries = placed (record { due = t.tick + delay; arming = t.next; item = k }) t.entries;
  next = t.next + 1;
}

-- the item k goes off the table
abbrev pub table_without : ℕ → DelayTable → DelayTable
table_without k t = record t { entries = without k t.entries }

-- the table is led on to a tick, and of what is due then these are left
abbrev pub table_at : ℕ → List Entry → DelayTable → DelayTable
table_at tick left t = record t { entries = left ++ later_part tick t.entries; tick = tick }
