-- What the seats of a queue brought, added up seat by seat.
use Rattle.wq_calls.proofs.Common.{◌≡◌, ℕ, ◌+◌, ◌==◌, Bool, true, false, cond, if◌then◌else◌, List, [], ◌∷◌, length, Option, Some, None, sym, ap, ◌∙◌, arith}
use Rattle.wq_calls.proofs.Common.{Event, accepted, accepted_by, seat_of, nil_from_length, own}
use Rattle.std.specs.Prelude.{sum_by}
use Rattle.std.specs.List.{cons_option}
use Rattle.wq_words.specs.declared.layout.Layout.{Layout}
use Rattle.wq_words.specs.Legal.{IsLegal}
use Rattle.wq_words.specs.Seen.{over_seats}
use Rattle.wq_words.specs.Valued.{values_among, value_if, first_in, left_of}
use Rattle.wq_words.proofs.Alone.{OfSeats, legal_seats}
use Rattle.wq_words.proofs.SeatBySeat.{amount, sum_by-cons_option, seat_gets, seats_nothing}
use Rattle.wq_calls.specs.OwnBrought.{own_brought}
use Rattle.wq_calls.proofs.OwnBrought.{own_row, is_row, own_brought_length}

pub nothing_brought : {V : Type 0} (s : ℕ) (h : List Event) (values : List (Option V)) → accepted (own s h) ≡ [] → own_brought s h values ≡ []
nothing_brought s h values none = nil_from_length (own_brought s h values) (own_brought_length s h values ∙ ap length none)

module _ {V : Type 0} (f : V → ℕ) where
  -- the values of a row of places, added up, and what one place adds, if it is one
  abbrev whole : List (Option V) → ℕ
  whole ys = sum_by f (values_among ys)

  abbrev place_adds : Option (Option V) → ℕ
  place_adds o = amount (amount f) o

  place_more : (o : Option (Option V)) (ys : List (Option V)) → whole (cons_option o ys) ≡ place_adds o + whole ys
  place_more None ys = omega arith
  place_more (Some y) ys = sum_by-cons_option f y (values_among ys)

  -- the next event takes its place, if it accepts, off what was brought
  takes : (a : Option ℕ) (acs : List ℕ) (ys : List (Option V)) → length ys ≡ length (cons_option a acs)
      → (whole ys ≡ place_adds (value_if a (first_in ys)) + whole (left_of a ys)) × (length (left_of a ys) ≡ length acs)
  takes None acs ys many = (omega arith, many)
  takes (Some k) acs [] many = absurd (omega arith)
  takes (Some k) acs (y ∷ ys) many = (sum_by-cons_option f y (values_among ys), omega (arith, many))

  one_more : (e : Event) (h : List Event) (ys : List (Option V)) (s : ℕ)
      → whole (own_row s (e ∷ h) ys) ≡ cond (seat_of e == s) (place_adds (value_if (accepted_by e) (first_in ys))) 0
      + whole (own_row s h (left_of (accepted_by e) ys))
  one_more e h ys s = by (seat_of e == s)
    where
      by : (b : Bool) → whole (cons_option (if b then value_if (accepted_by e) (first_in ys) else None) (own_row s h (left_of (accepted_by e) ys)))
          ≡ cond b (place_adds (value_if (accepted_by e) (first_in ys))) 0 + whole (own_row s h (left_of (accepted_by e) ys))
      by true = place_more (value_if (accepted_by e) (first_in ys)) (own_row s h (left_of (accepted_by e) ys))
      by false = omega arith

  rows_have : (layout : Layout) (h : List Event) (ys : List (Option V)) → OfSeats layout h → length ys ≡ length (accepted h)
      → whole ys ≡ over_seats layout (λ s. whole (own_row s h ys))
  rows_have layout [] [] held many = omega (arith, seats_nothing layout)
  rows_have layout [] (y ∷ ys) held many = absurd (omega arith)
  rows_have layout (e ∷ h) ys held many =
      let t = takes (accepted_by e) (accepted h) ys many in
      omega (
        arith,
        t.0,
        seat_gets (λ s. whole (own_row s h (left_of (accepted_by e) ys))) (λ s. whole (own_row s (e ∷ h) ys)) (seat_of e)
            (place_adds (value_if (accepted_by e) (first_in ys))) (one_more e h ys) layout held.0,
        rows_have layout h (left_of (accepted_by e) ys) held.1 t.1,
      )

  -- the values brought are, together, those that each seat brought
  pub values_over_seats : (layout : Layout) (h : List Event) (ys : List (Option V)) → IsLegal layout h → length ys ≡ length (accepted h)
      → whole ys ≡ over_seats layout (λ s. whole (own_brought s h ys))
  values_over_seats layout h ys legal many =
      rows_have layout h ys (legal_seats layout [] h legal) many ∙ (λ i. over_seats layout (λ s. whole (sym (is_row s h ys ys) i)))
