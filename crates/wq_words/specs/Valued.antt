-- Histories whose events carry values.
use Rattle.std.specs.Prelude.{◌≡◌, ℕ, ◌<◌, ◌≤◌, List, [], ◌∷◌, map, length, slice_get, filter_map, Option, Some, None}
use Rattle.wq_words.specs.declared.layout.Layout.{Layout}
use Rattle.wq_words.specs.declared.event.Event.{Event}
use Rattle.wq_words.specs.History.{accepted_by, accepted, begun_by}
use Rattle.wq_words.specs.Legal.{IsLegal}

-- an event, and the value that it carries, where it carries one
pub record Valued (V : Type 0) : Type 0 where
  pub event : Event
  pub value : Option V

-- the history without its values
abbrev pub events_of : {V : Type 0} → List (Valued V) → List Event
events_of h = map (λ x. x.event) h

-- the value, where the event has a number of this kind
abbrev pub value_if : {V : Type 0} → Option ℕ → Option V → Option (Option V)
value_if None y = None
value_if (Some k) y = Some y

abbrev pub brought_by : {V : Type 0} → Valued V → Option (Option V)
brought_by x = value_if (accepted_by x.event) x.value

abbrev pub handed_by : {V : Type 0} → Valued V → Option (Option V)
handed_by x = value_if (begun_by x.event) x.value

-- what each accepted number brought, and what each begun number was handed, in order
abbrev pub brought : {V : Type 0} → List (Valued V) → List (Option V)
brought h = filter_map brought_by h

abbrev pub handed : {V : Type 0} → List (Valued V) → List (Option V)
handed h = filter_map handed_by h

-- the values among what was brought, without the places that brought none
abbrev pub values_among : {V : Type 0} → List (Option V) → List V
values_among ys = filter_map (λ y. y) ys

-- an item brings a value, and no other number does
abbrev pub Carries : {V : Type 0} → ℕ → ℕ → Option V → Type 0
Carries {V} items k y = (k < items → (v : V) × (y ≡ Some v)) × (items ≤ k → y ≡ None)

-- the accepted numbers brought these, one after the other
pub record AreBrought {V : Type 0} (items : ℕ) (numbers : List ℕ) (values : List (Option V)) : Type 0 where
  pub as_many : length values ≡ length numbers
  pub carries : (place k : ℕ) (y : Option V) → slice_get numbers place ≡ Some k → slice_get values place ≡ Some y → Carries items k y

-- it is legal without its values, each accepted item brought one, and each begun number was handed what the accepted number at
-- its place brought
pub record IsLegalWith {V : Type 0} (layout : Layout) (h : List (Valued V)) : Type 0 where
  pub legal : IsLegal layout (events_of h)
  pub carries : AreBrought layout.items (accepted (events_of h)) (brought h)
  pub own_value : (place : ℕ) (y : Option V) → slice_get (handed h) place ≡ Some y → slice_get (brought h) place ≡ Some y

abbrev pub first_in : {V : Type 0} → List (Option V) → Option V
first_in [] = None
first_in (y ∷ ys) = y

abbrev pub rest_in : {V : Type 0} → List (Option V) → List (Option V)
rest_in [] = []
rest_in (y ∷ ys) = ys

-- the next of what was brought for an accepted number, the next of what was handed for a begun one
abbrev pub value_of : {V : Type 0} → Option ℕ → Option ℕ → List (Option V) → List (Option V) → Option V
value_of (Some k) _ bs hs = first_in bs
value_of None (Some k) bs hs = first_in hs
value_of None None bs hs = None

abbrev pub left_of : {V : Type 0} → Option ℕ → List (Option V) → List (Option V)
left_of None ys = ys
left_of (Some k) ys = rest_in ys

-- the events with these values: those of the accepted numbers, and those of the begun ones, in order
abbrev pub paired : {V : Type 0} → List Event → List (Option V) → List (Option V) → List (Valued V)
paired [] bs hs = []
paired (e ∷ es) bs hs =
    record { event = e; value = value_of (accepted_by e) (begun_by e) bs hs } ∷ paired es (left_of (accepted_by e) bs) (left_of (begun_by e) hs)

-- the history, in which these were brought: the begun numbers are handed what was brought, in order
abbrev pub with_values : {V : Type 0} → List Event → List (Option V) → List (Valued V)
with_values h values = paired h values values
