-- What the seats of a queue have, added up seat by seat.
use Rattle.wq_words.proofs.Common.{◌≡◌, ℕ, zero, suc, ◌+◌, ◌<◌, ◌≤◌, ◌==◌, Bool, true, false, cond, List, [], ◌∷◌, Option, Some, None, inl, inr, refl, ap, arith}
use Rattle.wq_words.proofs.Common.{eq-eqb, ne_eqb, cases_lt, sum_by-cons, Layout, Event, owner_seat, seat_of, own, accepted, accepted_by, IsLegal}
use Rattle.std.specs.Prelude.{sum_by}
use Rattle.std.specs.List.{Contains, range_with_len, cons_option}
use Rattle.wq_words.specs.Seen.{over_seats}
use Rattle.wq_words.proofs.Alone.{IsSeat, OfSeats, legal_seats}
use Rattle.wq_words.proofs.Times.{times, times_from_Contains, Contains_from_times}

-- what is there adds this to a sum
abbrev pub amount : {X : Type 0} → (X → ℕ) → Option X → ℕ
amount f None = 0
amount f (Some x) = f x

pub sum_by-cons_option : {X : Type 0} (f : X → ℕ) (o : Option X) (xs : List X) → sum_by f (cons_option o xs) ≡ amount f o + sum_by f xs
sum_by-cons_option f None xs = omega arith
sum_by-cons_option f (Some x) xs = sum_by-cons f x xs

nothing : (ss : List ℕ) → sum_by (λ s. 0) ss ≡ 0
nothing [] = refl
nothing (s ∷ ss) = nothing ss

pub seats_nothing : (layout : Layout) → over_seats layout (λ s. 0) ≡ 0
seats_nothing layout = omega (arith, nothing (range_with_len 0 layout.senders))

-- the seat q gets w more, and no other any
module _ (old new : ℕ → ℕ) (q w : ℕ) (more : (s : ℕ) → new s ≡ cond (q == s) w 0 + old s) where
  other : (s : ℕ) → (q ≡ s → ⊥) → new s ≡ old s
  other s differs = let none = ap (λ (b : Bool). cond b w 0) (ne_eqb q s differs) in omega (arith, more s, none)

  its : new q ≡ w + old q
  its = let all = ap (λ (b : Bool). cond b w 0) (eq-eqb q q refl) in omega (arith, more q, all)

  apart : (a n : ℕ) → ((s : ℕ) → a ≤ s → s < a + n → q ≡ s → ⊥) → sum_by new (range_with_len a n) ≡ sum_by old (range_with_len a n)
  apart a zero differ = refl
  apart a (suc n) differ =
      omega (
        arith,
        sum_by-cons new a (range_with_len (a + 1) n),
        sum_by-cons old a (range_with_len (a + 1) n),
        other a (differ a (omega arith) (omega arith)),
        apart (a + 1) n (λ s low high is. differ s (omega (arith, low)) (omega (arith, high)) is),
      )

  among : (a n : ℕ) → a ≤ q → q < a + n → sum_by new (range_with_len a n) ≡ w + sum_by old (range_with_len a n)
  among a zero low high = absurd (omega arith)
  among a (suc n) low high = elim (cases_lt a q) [
    | inl later ↦ omega (
      arith,
      sum_by-cons new a (range_with_len (a + 1) n),
      sum_by-cons old a (range_with_len (a + 1) n),
      other a (λ is. absurd (omega (arith, is, later))),
      among (a + 1) n (omega arith) (omega arith),
    )
    | inr here ↦ let is : q ≡ a = omega arith in
        omega (
          arith,
          sum_by-cons new a (range_with_len (a + 1) n),
          sum_by-cons old a (range_with_len (a + 1) n),
          ap new is,
          ap old is,
          its,
          apart (a + 1) n (λ s low high same. absurd (omega (arith, is, low, same))),
        )
  ]

  pub seat_gets : (layout : Layout) → IsSeat layout q → over_seats layout new ≡ w + over_seats layout old
  seat_gets layout (inl sender) =
      let few = layout.in_limits.2.1 in
      omega (
        arith,
        other owner_seat (λ is. absurd (omega (arith, is, sender, few))),
        among 0 layout.senders (omega arith) (omega arith),
      )
  seat_gets layout (inr owner) =
      let few = layout.in_limits.2.1 in
      omega (
        arith,
        ap new owner,
        ap old owner,
        its,
        apart 0 layout.senders (λ s low high is. absurd (omega (arith, owner, few, high, is))),
      )

module _ (f : ℕ → ℕ) where
  -- what was accepted of a seat, added up
  abbrev pub own_sum : List Event → ℕ → ℕ
  own_sum h s = sum_by f (accepted (own s h))

  one_more : (e : Event) (h : List Event) (s : ℕ) → own_sum (e ∷ h) s ≡ cond (seat_of e == s) (amount f (accepted_by e)) 0 + own_sum h s
  one_more e h s = by (seat_of e == s)
    where
      by : (b : Bool) → sum_by f (accepted (cond b (e ∷ own s h) (own s h))) ≡ cond b (amount f (accepted_by e)) 0 + own_sum h s
      by true = sum_by-cons_option f (accepted_by e) (accepted (own s h))
      by false = omega arith

  seats_have : (layout : Layout) (h : List Event) → OfSeats layout h → sum_by f (accepted h) ≡ over_seats layout (own_sum h)
  seats_have layout [] held = omega (arith, seats_nothing layout)
  seats_have layout (e ∷ h) held =
      omega (
        arith,
        sum_by-cons_option f (accepted_by e) (accepted h),
        seat_gets (own_sum h) (own_sum (e ∷ h)) (seat_of e) (amount f (accepted_by e)) (one_more e h) layout held.0,
        seats_have layout h held.1,
      )

  -- what was accepted is, together, what was accepted of each seat
  pub accepted_over_seats : (layout : Layout) (h : List Event) → IsLegal layout h → sum_by f (accepted h) ≡ over_seats layout (own_sum h)
  accepted_over_seats layout h legal = seats_have layout h (legal_seats layout [] h legal)

some_sender : (part : ℕ → ℕ) (a n : ℕ) → 1 ≤ sum_by part (range_with_len a n) → (s : ℕ) × (s < a + n) × (1 ≤ part s)
some_sender part a zero some = absurd (omega arith)
some_sender part a (suc n) some = elim (cases_lt 0 (part a)) [
  | inl has ↦ (a, omega arith, has)
  | inr none ↦ let it = some_sender part (a + 1) n (omega (arith, some, none, sum_by-cons part a (range_with_len (a + 1) n))) in
      (it.0, omega (arith, it.1), it.2)
]

-- where all together have some, one of them has
some_seat : (layout : Layout) (part : ℕ → ℕ) → 1 ≤ over_seats layout part → (s : ℕ) × IsSeat layout s × (1 ≤ part s)
some_seat layout part some = elim (cases_lt 0 (part owner_seat)) [
  | inl has ↦ (owner_seat, inr refl, has)
  | inr none ↦ let it = some_sender part 0 layout.senders (omega (arith, some, none)) in (it.0, inl (omega (arith, it.1)), it.2)
]

-- what was accepted was accepted of some seat
pub accepted_of_some : (layout : Layout) (h : List Event) (k : ℕ) → IsLegal layout h → Contains (accepted h) k
    → (s : ℕ) × IsSeat layout s × Contains (accepted (own s h)) k
accepted_of_some layout h k legal there =
    let of_each = accepted_over_seats (λ j. cond (j == k) 1 0) layout h legal in
    let it = some_seat layout (λ s. times k (accepted (own s h))) (omega (arith, of_each, times_from_Contains k (accepted h) there)) in
    (it.0, it.1, Contains_from_times k (accepted (own it.0 h)) it.2)
