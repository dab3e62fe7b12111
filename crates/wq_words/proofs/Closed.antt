-- Whether the queue is closed, and whether it takes no push now, as tests and as facts.
use Rattle.wq_words.proofs.Common.{◌≡◌, ℕ, ◌<◌, true, false, nat_lt, List, [], ◌∷◌, ◌++◌, ap, ◌∙◌, arith, count_by, nat_tests, Event, is_close, IsClosed}
use Rattle.wq_words.proofs.Common.{closed, after_last, is_drain, is_resume, shuts, IsShut, shut, HasDrained, IsCause}
use Rattle.wq_words.specs.declared.event.Why.{Why}
use Rattle.wq_words.specs.declared.event.Why.TheVariants.{Closed, Draining}
use Rattle.wq_words.proofs.Growing.{count_by_push}
use Rattle.wq_words.proofs.Lasts.{after_last_push_yes, after_last_push_no}

some_below : (n : ℕ) → 0 < n → nat_lt 0 n ≡ true
some_below n lt = grind (arith, nat_tests)

none_below : (n : ℕ) → ¬ (0 < n) → nat_lt 0 n ≡ false
none_below n none = grind (arith, nat_tests)

below_some : (n : ℕ) → nat_lt 0 n ≡ true → 0 < n
below_some n e = grind (arith, nat_tests)

pub closed_from_IsClosed : (h : List Event) → IsClosed h → closed h ≡ true
closed_from_IsClosed h is = some_below (count_by is_close h) is

pub closed_from_open : (h : List Event) → ¬ IsClosed h → closed h ≡ false
closed_from_open h opens = none_below (count_by is_close h) opens

pub IsClosed_from_closed : (h : List Event) → closed h ≡ true → IsClosed h
IsClosed_from_closed h e = below_some (count_by is_close h) e

pub open_from_closed : (h : List Event) → closed h ≡ false → ¬ IsClosed h
open_from_closed h is closes = absurd (cc (is, closed_from_IsClosed h closes))

module _ (h : List Event) (e : Event) where
  pub closed_stays : IsClosed h → IsClosed (h ++ e ∷ [])
  closed_stays is = omega (arith, is, count_by_push is_close h e)

  pub closed_push_no : is_close e ≡ false → closed (h ++ e ∷ []) ≡ closed h
  closed_push_no is = ap (nat_lt 0) (count_by_push is_close h e ∙ rw is (omega arith))

  pub closed_push_yes : is_close e ≡ true → closed (h ++ e ∷ []) ≡ true
  closed_push_yes is = some_below _ (omega (arith, rw is at (count_by_push is_close h e)))

module _ (h : List Event) (e : Event) where
  pub drained_stays : HasDrained h → HasDrained (h ++ e ∷ [])
  drained_stays is = omega (arith, is, count_by_push is_drain h e)

  -- what is a cause to give a number back stays one
  pub cause_stays : (why : Why) → IsCause h why → IsCause (h ++ e ∷ []) why
  cause_stays Closed is = closed_stays h e is
  cause_stays Draining is = drained_stays is
  cause_stays _ is = is

-- the same of a queue that takes no push now
pub shut_from_IsShut : (h : List Event) → IsShut h → shut h ≡ true
shut_from_IsShut h is = some_below (shuts h) is

pub shut_from_open : (h : List Event) → ¬ IsShut h → shut h ≡ false
shut_from_open h opens = none_below (shuts h) opens

pub IsShut_from_shut : (h : List Event) → shut h ≡ true → IsShut h
IsShut_from_shut h e = below_some (shuts h) e

pub open_from_shut : (h : List Event) → shut h ≡ false → ¬ IsShut h
open_from_shut h is shuts_it = absurd (cc (is, shut_from_IsShut h shuts_it))

pub closed_shuts : (h : List Event) → IsClosed h → IsShut h
closed_shuts h is = omega (arith, is)

module _ (h : List Event) (e : Event) where
  shuts_on : is_resume e ≡ false → is_drain e ≡ false → is_close e ≡ false → shuts (h ++ e ∷ []) ≡ shuts h
  shuts_on no_resume no_drain no_close =
      let more = count_by_push is_close h e in
      let drains = count_by_push is_drain (after_last is_resume h) e in
      let behind = ap (count_by is_drain) (after_last_push_no is_resume h e no_resume) in
      omega (arith, rw no_close at more, rw no_drain at drains, behind)

  pub shut_quiet : is_resume e ≡ false → is_drain e ≡ false → is_close e ≡ false → shut (h ++ e ∷ []) ≡ shut h
  shut_quiet no_resume no_drain no_close = ap (nat_lt 0) (shuts_on no_resume no_drain no_close)

  pub shut_close : is_close e ≡ true → shut (h ++ e ∷ []) ≡ true
  shut_close is = some_below _ (omega (arith, rw is at (count_by_push is_close h e)))

  pub shut_drain : is_resume e ≡ false → is_drain e ≡ true → shut (h ++ e ∷ []) ≡ true
  shut_drain no_resume is =
      let behind = ap (count_by is_drain) (after_last_push_no is_resume h e no_resume) in
      some_below _ (omega (arith, rw is at (count_by_push is_drain (after_last is_resume h) e), behind))

  pub shut_resume : is_resume e ≡ true → is_close e ≡ false → ¬ IsClosed h → shut (h ++ e ∷ []) ≡ false
  shut_resume is no_close opens =
      let none = ap (count_by is_drain) (after_last_push_yes is_resume h e is) in
      none_below _ (λ lt. opens (omega (arith, lt, none, rw no_close at (count_by_push is_close h e))))
