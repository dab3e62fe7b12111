-- The lines of the header: where they belong, and the layout that they name.
use Rattle.std.specs.Prelude.{◌≡◌, ℕ, ◌≤◌, Bool, true, false, ◌||◌, List, Option, Some, None, Result, Ok, Err, nat_le, codes, refl}
use Rattle.std.specs.Str.{bytes_eq}
use borrow.Author.Tests.{leb-true}
use Rattle.wq_words.specs.declared.layout.Layout.{Layout}
use Rattle.wq_words.specs.Limits.{AreInLimits, IsBetween, most_items, most_barriers, most_senders}
use Rattle.wq_words.specs.Layout.{layout_of_numbers}
use Rattle.wq_text.specs.declared.fault.FaultKind.{FaultKind}
use Rattle.wq_text.specs.declared.fault.FaultKind.TheVariants as kind
use Rattle.wq_text.specs.declared.header.Most.{Most}
use Rattle.wq_text.specs.declared.header.Awaited.{Awaited}
use Rattle.wq_text.specs.declared.header.Awaited.TheVariants as awaited
use Rattle.wq_text.specs.Arguments.{between, one}
use Rattle.wq_text.specs.Fault.{◌>>=◌, need, of_one}

-- a first word of a header line
abbrev pub is_header : List ℕ → Bool
is_header w = bytes_eq w (codes "items") || (bytes_eq w (codes "senders") || bytes_eq w (codes "barriers"))

-- items, then senders, then barriers if they are named
unfoldable pub awaits : Awaited → List ℕ → Bool
awaits awaited.Items w = bytes_eq w (codes "items")
awaits (awaited.Senders layout) w = bytes_eq w (codes "senders")
awaits (awaited.Barriers layout) w = bytes_eq w (codes "barriers")
awaits s w = false

-- the layout, once a line may ask something of the queue
abbrev pub layout_at : Awaited → Option Layout
layout_at (awaited.Barriers layout) = Some layout
layout_at (awaited.Commands layout) = Some layout
layout_at s = None

-- a number that is at most another, with its proof
abbrev pub tested : (m n : ℕ) (b : Bool) → nat_le m n ≡ b → Option (m ≤ n)
tested m n true e = Some (leb-true m n e)
tested m n false e = None

abbrev pub at_most : (m n : ℕ) → Option (m ≤ n)
at_most m n = tested m n (nat_le m n) refl

abbrev pub two_of : {A B : Type 0} → Option A → Option B → Option (A × B)
two_of (Some a) (Some b) = Some (a, b)
two_of x y = None

abbrev pub three_of : {A B C : Type 0} → Option A → Option B → Option C → Option (A × B × C)
three_of (Some a) (Some b) (Some c) = Some (a, b, c)
three_of x y z = None

abbrev pub within : (low n high : ℕ) → Option (IsBetween low n high)
within low n high = two_of (at_most low n) (at_most n high)

abbrev pub in_limits : (items barriers senders : ℕ) → Option (AreInLimits items barriers senders)
in_limits items barriers senders = three_of (within 1 items most_items) (within 1 barriers most_barriers) (within 1 senders most_senders)

-- the layout of these numbers, or the fault k where they are out of the limits of a queue
abbrev pub with_limits : FaultKind → (items barriers senders : ℕ) → Option (AreInLimits items barriers senders) → Result Layout FaultKind
with_limits k items barriers senders (Some h) = Ok (layout_of_numbers items barriers senders h)
with_limits k items barriers senders None = Err k

unfoldable pub limited : FaultKind → ℕ → ℕ → ℕ → Result Layout FaultKind
limited k items barriers senders = with_limits k items barriers senders (in_limits items barriers senders)

-- what is awaited behind the line of the items: that of the senders, or, where no line names them, what is asked of the queue
unfoldable pub behind_items : Bool → Most → ℕ → Result Awaited FaultKind
behind_items true most items = of_one awaited.Senders (limited kind.Items items 1 1)
behind_items false most items = of_one awaited.Commands (limited kind.Items items 1 most.senders)

-- what is awaited behind a header line, of at most so many items and senders: until a line names them, there is 1 of each thing, and where
-- none does, there are as many senders as there may be
unfoldable pub header_gives : Bool → Most → Awaited → List (List ℕ) → Result Awaited FaultKind
header_gives seats most awaited.Items ws = one (between kind.Items 1 most.items) ws >>= behind_items seats most
header_gives seats most (awaited.Senders l) ws = of_one awaited.Barriers
    (one (between kind.Senders 1 most.senders) ws >>= λ n. limited kind.Senders l.items 1 n)
header_gives seats most (awaited.Barriers l) ws =
    of_one awaited.Commands (one (between kind.Barriers 1 most_barriers) ws >>= λ n. limited kind.Barriers l.items n l.senders)
header_gives seats most s ws = Err kind.Header

abbrev pub header_line_gives : Bool → Most → Awaited → List ℕ → List (List ℕ) → Result Awaited FaultKind
header_line_gives seats most s w ws = do
  _ ← need kind.Header (awaits s w)
  header_gives seats most s ws
