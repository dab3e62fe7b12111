-- Events of a history, and whose they are.
use Rattle.wq_race.proofs.Common.{⊎_elim, ◌≡◌, ℕ, zero, suc, ◌+◌, ◌*◌, ◌<◌, ◌≤◌, ◌⊎◌, Bool, true, false, cond, ◌==◌, List, [], ◌∷◌, ◌++◌, inl, inr, refl, sym}
use Rattle.wq_race.proofs.Common.{ap, ◌∙◌, subst, arith, append_assoc, eq-eqb, count_by, range_with_len, eqb-true, cases_lt, sum_by-cons, Layout, Event, Hold}
use Rattle.wq_race.proofs.Common.{Busy, Push, Back, Chain, sets_pending, IsLegal, IsAllowed, seat_of, own, SendsOne}
use Rattle.wq_race.proofs.Common.{Why, RefusesFor, pushed, busy, refused, SendsAll, queueings}
use Rattle.wq_words.proofs.Legal.{legal_next}
use Rattle.wq_race.proofs.Running.{own_room}

-- the event stands in the history
abbrev pub Has : Event → List Event → Type 0
Has e [] = ⊥
Has e (x ∷ xs) = (e ≡ x) ⊎ Has e xs

pub has_left : (e : Event) (xs ys : List Event) → Has e xs → Has e (xs ++ ys)
has_left e [] ys h = absurd h
has_left e (x ∷ xs) ys (inl is) = inl is
has_left e (x ∷ xs) ys (inr h) = inr (has_left e xs ys h)

pub has_either : (e : Event) (xs ys : List Event) → Has e (xs ++ ys) → Has e xs ⊎ Has e ys
has_either e [] ys h = inr h
has_either e (x ∷ xs) ys (inl is) = inl (inl is)
has_either e (x ∷ xs) ys (inr h) = elim (has_either e xs ys h) [
  | inl a ↦ inl (inr a)
  | inr b ↦ inr b
]

kept : (b : Bool) (e x : Event) (xs : List Event) → (b ≡ true) → Has e (cond b (e ∷ xs) xs)
kept true e x xs is = inl refl
kept false e x xs is = absurd (cc)

passed_on : (b : Bool) (e x : Event) (xs : List Event) → Has e xs → Has e (cond b (x ∷ xs) xs)
passed_on true e x xs h = inr h
passed_on false e x xs h = h

-- an event stands among those of its seat
pub has_own : (e : Event) (h : List Event) → Has e h → Has e (own (seat_of e) h)
has_own e [] has = absurd has
has_own e (x ∷ xs) (inl is) = subst (λ (y : Event). Has e (cond (seat_of y == seat_of e) (y ∷ own (seat_of e) xs) (own (seat_of e) xs))) is
    (kept (seat_of e == seat_of e) e e (own (seat_of e) xs) (eq-eqb (seat_of e) (seat_of e) refl))
has_own e (x ∷ xs) (inr has) = passed_on (seat_of x == seat_of e) e x (own (seat_of e) xs) (has_own e xs has)

was : (b : Bool) (e x : Event) (xs ys : List Event) → (Has e xs → Has e ys) → Has e (cond b (x ∷ xs) xs) → (e ≡ x) ⊎ Has e ys
was true e x xs ys go (inl is) = inl is
was true e x xs ys go (inr h) = inr (go h)
was false e x xs ys go h = inr (go h)

pub own_has : (c : ℕ) (e : Event) (h : List Event) → Has e (own c h) → Has e h
own_has c e [] has = absurd has
own_has c e (x ∷ xs) has = was (seat_of x == c) e x (own c xs) xs (own_has c e xs) has

-- what stands in a legal history was allowed by what came before it
pub record WasAllowed (layout : Layout) (e : Event) (h : List Event) : Type 0 where
  pub before : List Event
  pub rest : List Event
  pub is : h ≡ before ++ e ∷ rest
  pub allowed : IsAllowed layout before e

pub was_allowed : (layout : Layout) (e : Event) (before h : List Event) → IsLegal layout (before ++ h) → Has e h → WasAllowed layout e (before ++ h)
was_allowed layout e before [] legal has = absurd has
was_allowed layout e before (x ∷ xs) legal (inl is) = record {
  before = before;
  rest = xs;
  is = ap (λ (y : Event). before ++ y ∷ xs) (sym is);
  allowed = subst (IsAllowed layout before) (sym is) (legal_next layout before x xs legal);
}
was_allowed layout e before (x ∷ xs) legal (inr has) =
    let same : (before ++ x ∷ []) ++ xs ≡ before ++ x ∷ xs = append_assoc before (x ∷ []) xs in
    subst (λ (z : List Event). WasAllowed layout e z) same (was_allowed layout e (before ++ x ∷ []) xs (subst (IsLegal layout) (sym same) legal) has)

-- an event that a test counts
record Counted (p : Event → Bool) (h : List Event) : Type 0 where
  pub event : Event
  pub has : Has event h
  pub is : p event ≡ true

counted_at : (p : Event → Bool) (b : Bool) (e : Event) (es : List Event) → (0 < count_by p es → Counted p es) → p e ≡ b → 0 < count_by p (e ∷ es)
    → Counted p (e ∷ es)
counted_at p true e es go is some = record { event = e; has = inl refl; is = is }
counted_at p false e es go is some =
    let none : cond {A = ℕ} (p e) 1 0 ≡ 0 = ap (λ (b : Bool). cond {A = ℕ} b 1 0) is in
    let rest = go (omega (arith, some, none, sum_by-cons (λ x. cond (p x) 1 0) e es)) in
    record { event = rest.event; has = inr rest.has; is = rest.is }

counted : (p : Event → Bool) (h : List Event) → 0 < count_by p h → Counted p h
counted p [] some = absurd (omega (arith, some))
counted p (e ∷ es) some = counted_at p (p e) e es (counted p es) refl some

-- a number that was found pending was held or chained before
pub data IsSet (k : ℕ) (h : List Event) : Type 0 where
  by_hold : (t : ℕ) → Has (Hold t k) h → IsSet k h
  by_chain : Has (Chain k) h → IsSet k h

set_by : (k : ℕ) (e : Event) (h : List Event) → sets_pending k e ≡ true → Has e h → IsSet k h
set_by k (Hold t j) h is has = by_hold t (subst (λ (i : ℕ). Has (Hold t i) h) (eqb-true j k is) has)
set_by k (Chain j) h is has = by_chain (subst (λ (i : ℕ). Has (Chain i) h) (eqb-true j k is) has)
set_by k _ h is has = absurd (cc is)

pub busy_set : (layout : Layout) (s k : ℕ) (h : List Event) → IsLegal layout h → Has (Busy s k) h → IsSet k h
busy_set layout s k h legal has =
    let w = was_allowed layout (Busy s k) [] h legal has in
    let one = counted (sets_pending k) w.before (omega (arith, w.allowed.2)) in
    set_by k one.event h one.is (subst (Has one.event) (sym w.is) (has_left one.event w.before (Busy s k ∷ w.rest) one.has))

pub hold_seat : (layout : Layout) (s k : ℕ) (h : List Event) → IsLegal layout h → Has (Hold s k) h → s < layout.senders
hold_seat layout s k h legal has = (was_allowed layout (Hold s k) [] h legal has).allowed.0

pub push_seat : (layout : Layout) (s k : ℕ) (h : List Event) → IsLegal layout h → Has (Push s k) h → s < layout.senders
push_seat layout s k h legal has = (was_allowed layout (Push s k) [] h legal has).allowed.0

-- what a sender makes of its items, a row of numbers below n
abbrev pub number_of : Event → ℕ
number_of (Hold s k) = k
number_of (Busy s k) = k
number_of (Push s k) = k
number_of (Back s k w) = k
number_of _ = 0

of_one : (e x : Event) → Has e (x ∷ []) → e ≡ x
of_one e x (inl is) = is
of_one e x (inr none) = absurd none

of_two : (e x y : Event) → Has e (x ∷ y ∷ []) → (e ≡ x) ⊎ (e ≡ y)
of_two e x y (inl is) = inl is
of_two e x y (inr more) = inr (of_one e y more)

-- both events are of one number
two_numbers : (a : ℕ) (e x y : Event) (es : List Event) → es ≡ x ∷ y ∷ [] → number_of x ≡ a → number_of y ≡ a → Has e es → number_of e ≡ a
two_numbers a e x y es is one two has = ⊎_elim (λ (i : e ≡ x). ap number_of i ∙ one) (λ (i : e ≡ y). ap number_of i ∙ two) (of_two e x y (subst (Has e) is has))

one_number : (s a : ℕ) (e : Event) (es : List Event) → SendsOne s a es → Has e es → number_of e ≡ a
one_number s a e es (pushed is) has = two_numbers a e (Hold s a) (Push s a) es is refl refl has
one_number s a e es (busy is) has = ap number_of (of_one e (Busy s a) (subst (Has e) is has))
one_number s a e es (refused cause refusal is) has = two_numbers a e (Hold s a) (Back s a cause) es is refl refl has

abbrev pub IsWithin : ℕ → ℕ → ℕ → Type 0
IsWithin a m k = (a ≤ k) × (k < a + m)

pub row_number : (s a m : ℕ) (e : Event) (es : List Event) → SendsAll s (range_with_len a m) es → Has e es → IsWithin a m (number_of e)
row_number s a zero e es f has = absurd (subst (Has e) f has)
row_number s a (suc m) e es f has = elim (has_either e f.0 f.1 (subst (Has e) f.2 has)) [
  | inl one ↦ let is = one_number s a e f.0 f.3 one in (omega (arith, is), omega (arith, is))
  | inr rest ↦ let w = row_number s (a + 1) m e f.1 f.4 rest in (omega (arith, w.0), omega (arith, w.1))
]

apart : (s a t u k : ℕ) (es : List Event) → SendsOne s a es → Has (Hold t k) es → Has (Busy u k) es → ⊥
apart s a t u k es (pushed is) hold has = elim (of_two (Busy u k) (Hold s a) (Push s a) (subst (Has (Busy u k)) is has)) [
  | inl one ↦ let no : Busy u k ≡ Hold s a = one in absurd (cc)
  | inr two ↦ let no : Busy u k ≡ Push s a = two in absurd (cc)
]
apart s a t u k es (busy is) hold has =
    let no : Hold t k ≡ Busy s a = of_one (Hold t k) (Busy s a) (subst (Has (Hold t k)) is hold) in absurd (cc)
apart s a t u k es (refused cause refusal is) hold has = elim (of_two (Busy u k) (Hold s a) (Back s a cause) (subst (Has (Busy u k)) is has)) [
  | inl one ↦ let no : Busy u k ≡ Hold s a = one in absurd (cc)
  | inr two ↦ let no : Busy u k ≡ Back s a cause = two in absurd (cc)
]

-- a row has one answer for each number
pub row_apart : (s a m t u k : ℕ) (es : List Event) → SendsAll s (range_with_len a m) es → Has (Hold t k) es → Has (Busy u k) es → ⊥
row_apart s a zero t u k es f hold has = subst (Has (Hold t k)) f hold
row_apart s a (suc m) t u k es f hold has = elim (has_either (Hold t k) f.0 f.1 (subst (Has (Hold t k)) f.2 hold)) [
  | inl one ↦ elim (has_either (Busy u k) f.0 f.1 (subst (Has (Busy u k)) f.2 has)) [
    | inl two ↦ apart s a t u k f.0 f.3 one two
    | inr two ↦ let at : k ≡ a = one_number s a (Hold t k) f.0 f.3 one in let w = row_number s (a + 1) m (Busy u k) f.1 f.4 two in
        absurd (omega (arith, at, w.0))
  ]
  | inr one ↦ elim (has_either (Busy u k) f.0 f.1 (subst (Has (Busy u k)) f.2 has)) [
    | inl two ↦ let at : k ≡ a = one_number s a (Busy u k) f.0 f.3 two in let w = row_number s (a + 1) m (Hold t k) f.1 f.4 one in
        absurd (omega (arith, at, w.0))
    | inr two ↦ row_apart s (a + 1) m t u k f.1 f.4 one two
  ]
]

one_pushed : (s a : ℕ) (es : List Event) → ¬ Has (Busy s a) es → ((cause : Why) → RefusesFor cause → ¬ Has (Back s a cause) es) → SendsOne s a es
    → es ≡ Hold s a ∷ Push s a ∷ []
one_pushed s a es free opens (pushed is) = is
one_pushed s a es free opens (busy is) = absurd (free (subst (Has (Busy s a)) (sym is) (inl refl)))
one_pushed s a es free opens (refused cause refusal is) =
    absurd (opens cause refusal (subst (Has (Back s a cause)) (sym is) (inr (inl refl))))

pub has_right : (e : Event) (xs ys : List Event) → Has e ys → Has e (xs ++ ys)
has_right e [] ys h = h
has_right e (x ∷ xs) ys h = inr (has_right e xs ys h)

-- where each item was free and none was refused, each was pushed
pub row_pushed : (s a m : ℕ) (es : List Event) → ((k : ℕ) → ¬ Has (Busy s k) es) → ((k : ℕ) (cause : Why) → RefusesFor cause → ¬ Has (Back s k cause) es)
    → SendsAll s (range_with_len a m) es → es ≡ queueings s (range_with_len a m)
row_pushed s a zero es free opens f = f
row_pushed s a (suc m) es free opens f =
    let in_first : (e : Event) → Has e f.0 → Has e es = λ e h. subst (Has e) (sym f.2) (has_left e f.0 f.1 h) in
    let in_rest : (e : Event) → Has e f.1 → Has e es = λ e h. subst (Has e) (sym f.2) (has_right e f.0 f.1 h) in
    let one = one_pushed s a f.0 (λ h. free a (in_first (Busy s a) h)) (λ cause refusal h. opens a cause refusal (in_first (Back s a cause) h)) f.3 in
    let rest = row_pushed s (a + 1) m f.1 (λ k h. free k (in_rest (Busy s k) h))
    (λ k cause refusal h. opens k cause refusal (in_rest (Back s k cause) h)) f.4 in
    f.2 ∙ (λ i. one i ++ rest i)

-- a number of the rows of two senders is a number of one
pub same_row : (s t m k : ℕ) → IsWithin (s * m) m k → IsWithin (t * m) m k → s ≡ t
same_row s t m k a b = elim (cases_lt s t) [
  | inl less ↦ absurd (omega (arith, own_room s t m less, a.1, b.0))
  | inr ge ↦ elim (cases_lt t s) [
    | inl more ↦ absurd (omega (arith, own_room t s m more, a.0, b.1))
    | inr le ↦ omega (arith, ge, le)
  ]
]
