-- A queue that rests with one more event, and which pushes wake it.
use Rattle.wq_words.proofs.Common.{◌≡◌, ℕ, zero, suc, ◌+◌, ◌-◌, ◌<◌, ◌≤◌, ◌==◌, Bool, true, false, not, ◌&&◌, ◌||◌, cond, List, [], ◌∷◌, ◌++◌, length, take}
use Rattle.wq_words.proofs.Common.{Some, slice_get, get_or, refl, sym, ap, ◌∙◌, arith, add-zero, inl, inr, ◌⊎◌, count_by, after_last, nat_tests}
use Rattle.wq_words.proofs.Common.{slice_get_within, slice_get-get_or, Event, Push, Take, Rest, Drain}
use Rattle.wq_words.specs.Rest.{is_rest, wakes, WakesAt, BeginsStretch, WakesOnce, WakesBeforeTake, NoneWakesAfterTake, WakesOnceARest, is_work, IsTaking}
use Rattle.wq_words.proofs.Growing.{count_by_push, take_more_some}
use Rattle.wq_words.proofs.Lasts.{after_last_push_yes, after_last_push_no}
use mathlib.Core.Bool.{and-false, and-true}

-- whether the queue rests after an event, where it did or did not before
abbrev pub wakes_after : Bool → Event → Bool
wakes_after q e = is_rest e || (q && not (is_work e))

pub not_zero : (n : ℕ) → 0 < n → (n == 0) ≡ false
not_zero n lt = grind (arith, nat_tests)

one_more : (n : ℕ) (b : Bool) → ((n + cond b 1 0) == 0) ≡ ((n == 0) && not b)
one_more n true = not_zero (n + 1) (omega arith) ∙ sym (and-false (n == 0))
one_more n false = ap (λ (m : ℕ). m == 0) (add-zero n) ∙ sym (and-true (n == 0))

pub wakes_push : (h : List Event) (e : Event) → wakes (h ++ e ∷ []) ≡ wakes_after (wakes h) e
wakes_push h e = go (is_rest e) refl
  where
    go : (b : Bool) → is_rest e ≡ b → wakes (h ++ e ∷ []) ≡ (b || (wakes h && not (is_work e)))
    go true is = rw (after_last_push_yes is_rest h e is) refl
    go false is =
        ap (λ (es : List Event). count_by is_work es == 0) (after_last_push_no is_rest h e is)
        ∙ ap (λ (n : ℕ). n == 0) (count_by_push is_work (after_last is_rest h) e)
        ∙ one_more (count_by is_work (after_last is_rest h)) (is_work e)

-- an event that is neither Push, Take, Drain nor Rest leaves a queue resting or at work
pub wakes_quiet : (h : List Event) (e : Event) → is_rest e ≡ false → is_work e ≡ false → wakes (h ++ e ∷ []) ≡ wakes h
wakes_quiet h e no_rest no_work = wakes_push h e ∙ rw (no_rest, no_work) (and-true (wakes h))

worked : (q : Bool) (e : Event) → is_work e ≡ true → wakes_after q e ≡ false
worked true (Push s k) is = refl
worked false (Push s k) is = refl
worked true Take is = refl
worked false Take is = refl
worked true Drain is = refl
worked false Drain is = refl
worked q _ is = absurd cc

pub wakes_push_work : (h : List Event) (e : Event) → is_work e ≡ true → wakes (h ++ e ∷ []) ≡ false
wakes_push_work h e is = wakes_push h e ∙ worked (wakes h) e is

pub wakes_push_rest : (h : List Event) → wakes (h ++ Rest ∷ []) ≡ true
wakes_push_rest h = wakes_push h Rest

-- a queue at work stays at work, but for a Rest
at_work : (e : Event) → (wakes_after false e ≡ false) ⊎ (e ≡ Rest)
at_work Rest = inr refl
at_work _ = inl refl

-- a queue that rests goes on resting, but for a Push, a Take or a Drain
at_rest : (e : Event) → (wakes_after true e ≡ true) ⊎ (((s : ℕ) × (k : ℕ) × (e ≡ Push s k)) ⊎ IsTaking e)
at_rest (Push s k) = inr (inl (s, k, refl))
at_rest Take = inr (inr tt)
at_rest Drain = inr (inr tt)
at_rest _ = inl refl

module _ (h : List Event) where
  at_next : (place : ℕ) (e : Event) → slice_get h place ≡ Some e → wakes (take (place + 1) h) ≡ wakes_after (wakes (take place h)) e
  at_next place e at = ap wakes (take_more_some h place e at) ∙ wakes_push (take place h) e

  abbrev HasRest : ℕ → ℕ → Type 0
  HasRest from to = (rest : ℕ) × (from < rest) × (rest < to) × (slice_get h rest ≡ Some Rest)

  -- from a Push, a Take or a Drain on the queue is at work, or a Rest has come
  after_work : (from : ℕ) (e : Event) → slice_get h from ≡ Some e → is_work e ≡ true → (n : ℕ) → from + 1 + n ≤ length h
      → (wakes (take (from + 1 + n) h) ≡ false) ⊎ HasRest from (from + 1 + n)
  after_work from e at is zero le =
      let here : from + 1 + 0 ≡ from + 1 = omega arith in
      inl (ap (λ (i : ℕ). wakes (take i h)) here ∙ at_next from e at ∙ worked (wakes (take from h)) e is)
  after_work from e at is (suc n) le =
      let next : from + 1 + suc n ≡ from + 1 + n + 1 = omega arith in
      let x : Event = get_or h (from + 1 + n) e in
      let there : slice_get h (from + 1 + n) ≡ Some x = slice_get-get_or h (from + 1 + n) e (omega (arith, le)) in
      elim (after_work from e at is n (omega (arith, le))) [
        | inl still ↦
            elim (at_work x) [
              | inl on ↦ inl (ap (λ (i : ℕ). wakes (take i h)) next ∙ at_next (from + 1 + n) x there ∙ ap (λ (q : Bool). wakes_after q x) still ∙ on)
              | inr rests ↦ inr (from + 1 + n, omega arith, omega arith, there ∙ ap Some rests)
            ]
        | inr rest ↦ inr (rest.0, rest.1, omega (arith, rest.2), rest.3)
      ]

  -- a push that wakes after a Push, a Take or a Drain has a Rest before it
  rest_between : (from push : ℕ) (e : Event) → from < push → slice_get h from ≡ Some e → is_work e ≡ true → WakesAt h push → HasRest from push
  rest_between from push e less at is wakes_there =
      let size : push < length h = slice_get_within h push _ wakes_there.2 in
      let same : from + 1 + (push - (from + 1)) ≡ push = omega (arith, less) in
      elim (after_work from e at is (push - (from + 1)) (omega (arith, less, size))) [
        | inl still ↦ absurd (cc (ap (λ (i : ℕ). wakes (take i h)) (sym same) ∙ still, wakes_there.3))
        | inr rest ↦ (rest.0, rest.1, omega (arith, rest.2, same), rest.3)
      ]

  -- from a place at which the queue rests, with no Take or Drain from there on, it goes on resting, or a push wakes it
  still_rests : (from : ℕ) → wakes (take from h) ≡ true → (n : ℕ) → from + n ≤ length h
      → ((place : ℕ) (e : Event) → from ≤ place → place < from + n → slice_get h place ≡ Some e → ¬ IsTaking e)
      → (wakes (take (from + n) h) ≡ true) ⊎ ((place : ℕ) × (from ≤ place) × (place < from + n) × WakesAt h place)
  still_rests from rests zero le none = let here : from + 0 ≡ from = omega arith in inl (ap (λ (i : ℕ). wakes (take i h)) here ∙ rests)
  still_rests from rests (suc n) le none =
      let next : from + suc n ≡ from + n + 1 = omega arith in
      let x : Event = get_or h (from + n) Take in
      let there : slice_get h (from + n) ≡ Some x = slice_get-get_or h (from + n) Take (omega (arith, le)) in
      elim (still_rests from rests n (omega (arith, le)) (λ place e from_le lt. none place e from_le (omega (arith, lt)))) [
        | inr woken ↦ inr (woken.0, woken.1, omega (arith, woken.2), woken.3)
        | inl still ↦
            elim (at_rest x) [
              | inl on ↦ inl (ap (λ (i : ℕ). wakes (take i h)) next ∙ at_next (from + n) x there ∙ ap (λ (q : Bool). wakes_after q x) still ∙ on)
              | inr (inl push) ↦ inr (from + n, omega arith, omega arith, (push.0, push.1, there ∙ ap Some push.2, still))
              | inr (inr takes) ↦ absurd (none (from + n) x (omega arith) (omega arith) there takes)
            ]
      ]

  rests_at_stretch : (from : ℕ) → BeginsStretch h from → wakes (take from h) ≡ true
  rests_at_stretch from (inl start) = ap (λ (i : ℕ). wakes (take i h)) start
  rests_at_stretch from (inr rest) =
      ap (λ (i : ℕ). wakes (take i h)) rest.1 ∙ at_next rest.0 Rest rest.2

  wakes_once : WakesOnce h
  wakes_once first second less one two = rest_between first second (Push one.0 one.1) less one.2 refl two

  wakes_before_take : WakesBeforeTake h
  wakes_before_take from push s k begins le at none =
      let size : push < length h = slice_get_within h push _ at in
      let same : from + (push - from) ≡ push = omega (arith, le) in
      let none_there = λ (place : ℕ) (e : Event) (from_le : from ≤ place) (lt : place < from + (push - from)). none place e from_le (omega (arith, lt, same)) in
      elim (still_rests from (rests_at_stretch from begins) (push - from) (omega (arith, le, size)) none_there) [
        | inl still ↦ (push, le, omega arith, (s, k, at, ap (λ (i : ℕ). wakes (take i h)) (sym same) ∙ still))
        | inr woken ↦ (woken.0, woken.1, omega (arith, woken.2, same), woken.3)
      ]

  none_wakes_after_take : NoneWakesAfterTake h
  none_wakes_after_take taken push Take is less at woken = rest_between taken push Take less at refl woken
  none_wakes_after_take taken push Drain is less at woken = rest_between taken push Drain less at refl woken
  none_wakes_after_take taken push _ is less at woken = absurd is

  pub wakes_once_a_rest : WakesOnceARest h
  wakes_once_a_rest = record { once = wakes_once; before_take = wakes_before_take; none_after_take = none_wakes_after_take }
