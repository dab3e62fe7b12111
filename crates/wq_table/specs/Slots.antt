-- The rule of a queue's table whose slots hold what its queueings bring.
use Rattle.std.specs.Prelude.{◌≡◌, ◌⊎◌, ℕ, ◌+◌, ◌<◌, ◌≤◌, ◌==◌, List, [], ◌∷◌, map, length, slice_get, count_by, Option, Some, None}
use mathlib.Core.Option.{some, none}
use mathlib.Core.Option as maybe
use mathlib.Core.List.{IsPrefix}
use lib.ListN.{get_elem?}
use Rattle.atomic_table.specs.Table.{State}
use Rattle.wq_words.specs.declared.layout.Layout.{Layout}
use Rattle.wq_words.specs.Keeper.{Keeper, Home, Sender, keeper}
use Rattle.wq_words.specs.History.{accepted, begun}
use Rattle.wq_words.specs.Valued.{Carries}
use Rattle.wq_core.specs.Machine.{Machine}
use Rattle.wq_table.specs.declared.table.Part.{Part}
use Rattle.wq_table.specs.declared.values.ValuePart.{ValuePart}
use Rattle.wq_table.specs.Law.{View, Kept, opening_view}

abbrev pub IsSenders : Keeper → Type 0
IsSenders (Sender s) = Unit {0}
IsSenders _ = ⊥

-- the number is kept by a sender, or the owner has it so often
abbrev pub IsAway : Keeper → ℕ → Type 0
IsAway x n = IsSenders x ⊎ (0 < n)

-- What lies in the slots that no seat has. R says what a number may bring, kp who keeps a number, out k is 0 but for what the
-- owner walked or has in its batch; b have begun of the accepted numbers acs, which brought brs.
pub record HomesFit {S : Type 0} (nothing : S) (R : ℕ → S → Type 0) (kp : ℕ → Keeper) (out : ℕ → ℕ) (b : ℕ) (acs : List ℕ) (brs : List S)
    (homes : List (maybe.Option S)) : Type 0 where
  pub as_many : length brs ≡ length acs
  -- a number at home has nothing
  pub free : (k : ℕ) → k < length homes → kp k ≡ Home → get_elem? homes k ≡ some (some nothing)
  -- a number that waits to be walked has what it brought
  pub waits : (place k : ℕ) (y : S) → k < length homes → b ≤ place → slice_get acs place ≡ Some k → out k ≡ 0 → slice_get brs place ≡ Some y
      → get_elem? homes k ≡ some (some y)
  -- a number that a sender keeps, that was walked, or that is in the batch has its slot in a hand
  pub away : (k : ℕ) → k < length homes → IsAway (kp k) (out k) → get_elem? homes k ≡ some none
  -- where there are slots, each number was brought what fits it
  pub right : (place k : ℕ) (y : S) → 0 < length homes → slice_get acs place ≡ Some k → slice_get brs place ≡ Some y → R k y

-- how often the owner has k among what it walked and in its batch
abbrev pub taken_times : List ℕ → List ℕ → ℕ → ℕ
taken_times walked batch k = count_by (λ j. j == k) walked + count_by (λ j. j == k) batch

abbrev pub Slots : Type 0 → Type 0
Slots V = List (maybe.Option (Option V))

abbrev pub Shelves : {V : Type 0} → Machine → List (Option V) → Slots V → Type 0
Shelves m brs homes = HomesFit None (Carries m.layout.items) (keeper m.history) (taken_times m.walked m.batch) (length (begun m.history))
    (accepted m.history) brs homes

-- a view has one for each seat that it speaks for
abbrev pub ValueView : Type 0 → Type 0
ValueView V = List (ValuePart V)

-- the view, and the table, without values
abbrev pub plain_view : {V : Type 0} → ValueView V → View
plain_view v = map (λ t. t.part) v

abbrev pub plain : {V : Type 0} → State (Option V) (ValueView V) → State (Unit {0}) View
plain s = record { words = s.words; homes = []; views = map plain_view s.views }

-- it has been told a beginning of what was brought: that of each accepted number that it has seen
pub record Knows {V : Type 0} (brs : List (Option V)) (t : ValuePart V) : Type 0 where
  pub begins : IsPrefix t.brought brs
  pub as_many : length t.brought ≡ length (accepted t.part.seen)

abbrev pub AllKnow : {V : Type 0} → List (Option V) → ValueView V → Type 0
AllKnow brs [] = Unit {0}
AllKnow brs (t ∷ ts) = Knows brs t × AllKnow brs ts

-- Between any two steps: the rule of the words, what each accepted number brought, what lies in the slots, and what each
-- seat knows of it
pub record KeptValues {V : Type 0} (layout : Layout) (s : State (Option V) (ValueView V)) : Type 0 where
  pub base : Kept layout (plain s)
  pub brought : List (Option V)
  pub shelves : Shelves base.machine brought s.homes
  pub told : (i : ℕ) (v : ValueView V) → get_elem? s.views i ≡ some v → AllKnow brought v

-- a seat which was told that these were brought
abbrev pub telling : {V : Type 0} → List (Option V) → Part → ValuePart V
telling brs p = record { part = p; brought = brs }

abbrev pub opening_values : {V : Type 0} → Layout → ValueView V
opening_values layout = map (telling []) (opening_view layout)

abbrev pub front_values : {V : Type 0} → ValueView V → ValueView V
front_values [] = []
front_values (t ∷ ts) = t ∷ []

abbrev pub rest_values : {V : Type 0} → ValueView V → ValueView V
rest_values [] = []
rest_values (t ∷ ts) = ts
