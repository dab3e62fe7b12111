-- Where items stand, and the table that this spells.
use Rattle.std.specs.Prelude.{◌≡◌, ℕ, ◌+◌, ◌-◌, ◌*◌, ◌≤◌, ◌<◌, ◌%◌, ◌==◌, Bool, true, false}
use Rattle.std.specs.Prelude.{◌||◌, ◌&&◌, nat_lt, nat_le, Option, Some, None, if◌then◌else◌, List, [], ◌∷◌, ◌++◌}
use Rattle.std.specs.Prelude.{map, filter, length, take, slice_index, slice_index_or}
use Rattle.std.specs.List.{All}
use Rattle.std.specs.List.Sorted.{IsSortedBy}
use Rattle.std.specs.Ordering.{ordering_then, nat_cmp, is_lt}
use Rattle.std.specs.declared.cmp.Ordering.{Ordering}
use Rattle.wq_words.specs.DelayTable.{Entry, on_table, due_part}
use Rattle.wq_words.specs.Limits.{most_items}
use Rattle.wq_delay.specs.declared.timetable.DuePlace.{DuePlace}
use Rattle.wq_delay.specs.declared.timetable.DueItem.{DueItem}
use Rattle.wq_delay.specs.Rings.{AreRings}

-- how many items there may be, what stands on the table, and the present tick
pub record Rows : Type 0 where
  pub size : ℕ
  pub entries : List Entry
  pub tick : ℕ

abbrev pub place_at : ℕ → ℕ → DuePlace
place_at due arming = record { due = due; arming = arming }

-- the item k at this place
abbrev pub entry_at : DuePlace → ℕ → Entry
entry_at p k = record { due = p.due; arming = p.arming; item = k }

abbrev pub entry_of : DueItem → Entry
entry_of row = entry_at row.place row.item

-- the tick and the arming of the item k, from a list of places by item
abbrev pub place_in : List (Option DuePlace) → ℕ → Option DuePlace
place_in places k = slice_index_or places k None

-- the entry says where its item stands
abbrev pub SaysPlace : List (Option DuePlace) → Entry → Type 0
SaysPlace places e = place_in places e.item ≡ Some (place_at e.due e.arming)

-- e goes out before f, as a test (`IsBefore` of `wq_words` is the fact)
abbrev pub is_before : Entry → Entry → Bool
is_before e f = nat_lt e.due f.due || (e.due == f.due && nat_lt e.arming f.arming)

-- e among entries in order
abbrev pub slotted : Entry → List Entry → List Entry
slotted e [] = e ∷ []
slotted e (f ∷ fs) = if is_before e f then e ∷ f ∷ fs else f ∷ slotted e fs

abbrev pub with_place : ℕ → Option DuePlace → List Entry → List Entry
with_place k None es = es
with_place k (Some p) es = slotted (entry_at p k) es

-- the entries of a list of places by item, from the item k on, in order
abbrev pub entries_from : ℕ → List (Option DuePlace) → List Entry
entries_from k [] = []
entries_from k (o ∷ os) = with_place k o (entries_from (k + 1) os)

abbrev pub entries_of : List (Option DuePlace) → List Entry
entries_of places = entries_from 0 places

-- no two items have one arming
abbrev pub AreApart : List (Option DuePlace) → Type 0
AreApart places = (j k : ℕ) (p q : DuePlace) → place_in places j ≡ Some p → place_in places k ≡ Some q → p.arming ≡ q.arming → j ≡ k

-- the item k stands first and is due at the tick t
pub record IsFirstDue (t k : ℕ) (es : List Entry) : Type 0 where
  pub first : Entry
  pub rest : List Entry
  pub is : es ≡ first ∷ rest
  pub item_is : first.item ≡ k
  pub due : first.due ≤ t

-- the wheel: what waits there, by item. The head of a slot stands behind all items.
abbrev pub head_by : ℕ → ℕ → Option DuePlace → ℕ
head_by size k None = k
head_by size k (Some p) = size + p.due % 256

abbrev pub number_by : Option DuePlace → ℕ
number_by None = 0
number_by (Some p) = p.arming + 1

pub record IsWheel (size : ℕ) (next previous : List ℕ) (waits : ℕ → Option DuePlace) : Type 0 where
  pub next_length : length next ≡ size + 256
  pub previous_length : length previous ≡ size + 256
  pub heads : (k : ℕ) → size ≤ k → waits k ≡ None
  pub rings : AreRings (slice_index next) (slice_index previous) (λ k. head_by size k (waits k)) (λ k. number_by (waits k)) (size + 256)

-- what is due later than the tick t
abbrev pub later_than : ℕ → Option DuePlace → Option DuePlace
later_than t None = None
later_than t (Some p) = if nat_le p.due t then None else Some p

-- the item still stands where a row says
abbrev pub is_place : DuePlace → Option DuePlace → Bool
is_place p None = false
is_place p (Some q) = q.due == p.due && q.arming == p.arming

abbrev pub stands : List (Option DuePlace) → DueItem → Bool
stands places e = is_place e.place (place_in places e.item)

-- how many of the entries are of the item k
abbrev pub times : ℕ → List Entry → ℕ
times k [] = 0
times k (e ∷ es) = (if k == e.item then 1 else 0) + times k es

-- the test whether a place is due at the tick t
abbrev pub is_due : ℕ → Option DuePlace → Bool
is_due t None = false
is_due t (Some p) = nat_le p.due t

-- each says where its item stands, and no item stands twice
pub record AreOnTable (places : List (Option DuePlace)) (es : List Entry) : Type 0 where
  pub valid : All (SaysPlace places) es
  pub single : (k : ℕ) → times k es ≤ 1

-- they are what is due at the tick t
pub record AreDue (places : List (Option DuePlace)) (t : ℕ) (es : List Entry) : Type 0 where
  pub on : AreOnTable places es
  pub which : (k : ℕ) → on_table k es ≡ is_due t (place_in places k)

-- the slot of a later tick is the one of this many ticks after the next, counted round
abbrev pub turn_of : ℕ → ℕ → ℕ
turn_of t due = (due - (t + 1)) % 256

-- they are what is due at the tick now, of what was due at the tick t or waits in the first n slots after that
pub record AreFound (places : List (Option DuePlace)) (t now n : ℕ) (es : List Entry) : Type 0 where
  pub on : AreOnTable places es
  pub which : (k : ℕ) (p : DuePlace) → place_in places k ≡ Some p → on_table k es ≡ (nat_le p.due now && (nat_le p.due t || nat_lt (turn_of t p.due) n))

-- by their ticks, at one tick by their armings, and then by their numbers
abbrev pub row_cmp : DueItem → DueItem → Ordering
row_cmp x y = ordering_then (ordering_then (nat_cmp x.place.due y.place.due) (nat_cmp x.place.arming y.place.arming)) (nat_cmp x.item y.item)

abbrev pub AreSorted : List DueItem → Type 0
AreSorted row = IsSortedBy (λ x y. is_lt (row_cmp x y)) row

-- what still stands on the table of a row
abbrev pub remaining : List (Option DuePlace) → List DueItem → List Entry
remaining places row = map entry_of (filter (stands places) row)

-- The row has room for all that may be found: of what it holds no more than twice as many as there are items have left the table.
pub record RowHasRoom (places : List (Option DuePlace)) (row : List DueItem) (room : ℕ) : Type 0 where
  pub enough : 3 * length places ≤ room
  pub few_gone : length row ≤ 2 * length places + length (remaining places row)

-- items that stand on the table were put behind the row
pub record PutsBehind (places : List (Option DuePlace)) (old new : List DueItem) : Type 0 where
  pub more : List DueItem
  pub is : new ≡ old ++ more
  pub stand : All (λ e. stands places e ≡ true) more

-- what waits while entries were moved to the row
abbrev pub waiting : List (Option DuePlace) → List Entry → ℕ → Option DuePlace
waiting places row k = if on_table k row then None else place_in places k

-- while a wheel is led on to a tick: what stands in the row is on the table and due, no item twice, and the rest waits
pub record IsGathering (places : List (Option DuePlace)) (next previous : List ℕ) (row : List Entry) (now : ℕ) : Type 0 where
  pub wheel : IsWheel (length places) next previous (waiting places row)
  pub valid : All (SaysPlace places) row
  pub due : All (λ e. e.due ≤ now) row
  pub single : (k : ℕ) → times k row ≤ 1

-- what still waits waited before
abbrev pub StillWaits : List (Option DuePlace) → List Entry → List Entry → Type 0
StillWaits places old new = (k : ℕ) (p : DuePlace) → waiting places new k ≡ Some p → waiting places old k ≡ Some p

-- nothing that is due waits in the slot with this head
abbrev pub IsClean : List (Option DuePlace) → List Entry → ℕ → ℕ → Type 0
IsClean places row head now = (k : ℕ) (p : DuePlace) → waiting places row k ≡ Some p → length places + p.due % 256 ≡ head → now < p.due

-- what waits in the slot with this head is due at the tick t or later
abbrev pub WaitFrom : List (Option DuePlace) → List Entry → ℕ → ℕ → Type 0
WaitFrom places row head t = (k : ℕ) (p : DuePlace) → waiting places row k ≡ Some p → length places + p.due % 256 ≡ head → t ≤ p.due

-- nothing that waits is due before the tick that stands at its slot
pub record AreEarliest (earliest : List ℕ) (waits : ℕ → Option DuePlace) : Type 0 where
  pub slots : length earliest ≡ 256
  pub early : (k : ℕ) (p : DuePlace) → waits k ≡ Some p → slice_index earliest (p.due % 256) ≤ p.due

-- between two calls: what is due stands in the row, in order, and the rest waits
pub record IsTimetable (places : List (Option DuePlace)) (next previous : List ℕ) (row : List DueItem) (room front count tick : ℕ) : Type 0 where
  pub few : length places ≤ most_items
  pub apart : AreApart places
  pub wheel : IsWheel (length places) next previous (λ k. later_than tick (place_in places k))
  pub due_is : remaining places row ≡ due_part tick (entries_of places)
  pub early : All (λ e. e.place.due ≤ tick) row
  pub passed : filter (stands places) (take front row) ≡ []
  pub enough : 3 * length places ≤ room
  pub count_is : count ≡ length (entries_of places)
