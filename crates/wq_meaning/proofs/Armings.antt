-- The calls of the delay table, by the tests on which they rest.
use Rattle.wq_meaning.proofs.Common.{◌≡◌, ℕ, ◌<◌, Bool, true, false, ◌==◌, ◌||◌, List, [], ◌∷◌, ap, ◌∙◌, if◌then◌else◌, eq-eqb, Event, Hold, pending}
use Rattle.wq_meaning.proofs.Common.{armed_of, modified_of, DelayTable, on_table, is_too_far, table_with, table_without, queue_events, queue_answer}
use Rattle.wq_meaning.proofs.Common.{post_events, post_table, post_answer, queues_now, arm_events, arm_table, arm_answer, modify_events, modify_table}
use Rattle.wq_meaning.proofs.Common.{modify_answer}
use Rattle.wq_words.specs.declared.answer.Armed.TheVariants as armed
use Rattle.wq_words.specs.declared.answer.Modified.TheVariants as modified
use Rattle.wq_words.proofs.Rest.{not_zero}
use mathlib.Core.Bool.{or-true}

yes : {A : Type 0} (b : Bool) (x y : A) → b ≡ true → (if b then x else y) ≡ x
yes b x y is = ap (λ (c : Bool). if c then x else y) is

no : {A : Type 0} (b : Bool) (x y : A) → b ≡ false → (if b then x else y) ≡ y
no b x y is = ap (λ (c : Bool). if c then x else y) is

module _ (k delay : ℕ) (h : List Event) where
  -- with no delay, and of a pending item, an arming is a queueing
  pub now_at_once : delay ≡ 0 → queues_now k delay h ≡ true
  now_at_once none = ap (λ (b : Bool). b || pending h k) (eq-eqb delay 0 none)

  pub now_pending : pending h k ≡ true → queues_now k delay h ≡ true
  now_pending set = ap (λ (b : Bool). (delay == 0) || b) set ∙ or-true (delay == 0)

  pub now_never : 0 < delay → pending h k ≡ false → queues_now k delay h ≡ false
  now_never some clear = ap (λ (b : Bool). b || pending h k) (not_zero delay some) ∙ clear

module _ (s k delay : ℕ) (h : List Event) (t : DelayTable) where
  pub arm_far : is_too_far delay t ≡ true → (arm_events s k delay h t ≡ []) × (arm_table k delay h t ≡ t) × (arm_answer k delay h t ≡ armed.TooFar)
  arm_far far = (yes (is_too_far delay t) _ _ far, yes (is_too_far delay t) _ _ far, yes (is_too_far delay t) _ _ far)

  pub arm_now : is_too_far delay t ≡ false → queues_now k delay h ≡ true → (arm_events s k delay h t ≡ queue_events s k h)
      × (arm_table k delay h t ≡ t) × (arm_answer k delay h t ≡ armed_of (queue_answer k h))
  arm_now near now = (
    no (is_too_far delay t) _ _ near ∙ yes (queues_now k delay h) _ _ now,
    no (is_too_far delay t) _ _ near ∙ yes (queues_now k delay h) _ _ now,
    no (is_too_far delay t) _ _ near ∙ yes (queues_now k delay h) _ _ now,
  )

  pub arm_later : is_too_far delay t ≡ false → queues_now k delay h ≡ false → (arm_events s k delay h t ≡ Hold s k ∷ [])
      × (arm_table k delay h t ≡ table_with k delay t) × (arm_answer k delay h t ≡ armed.OnTable)
  arm_later near later = (
    no (is_too_far delay t) _ _ near ∙ no (queues_now k delay h) _ _ later,
    no (is_too_far delay t) _ _ near ∙ no (queues_now k delay h) _ _ later,
    no (is_too_far delay t) _ _ near ∙ no (queues_now k delay h) _ _ later,
  )

  pub modify_far : is_too_far delay t ≡ true → (modify_events s k delay h t ≡ []) × (modify_table k delay h t ≡ t)
      × (modify_answer k delay h t ≡ modified.TooFar)
  modify_far far = (yes (is_too_far delay t) _ _ far, yes (is_too_far delay t) _ _ far, yes (is_too_far delay t) _ _ far)

  pub modify_off : is_too_far delay t ≡ false → on_table k t.entries ≡ false → (modify_events s k delay h t ≡ arm_events s k delay h t)
      × (modify_table k delay h t ≡ arm_table k delay h t) × (modify_answer k delay h t ≡ modified_of (arm_answer k delay h t))
  modify_off near off = (
    no (is_too_far delay t) _ _ near ∙ no (on_table k t.entries) _ _ off,
    no (is_too_far delay t) _ _ near ∙ no (on_table k t.entries) _ _ off,
    no (is_too_far delay t) _ _ near ∙ no (on_table k t.entries) _ _ off,
  )

  pub modify_now : is_too_far delay t ≡ false → on_table k t.entries ≡ true → delay ≡ 0 → (modify_events s k delay h t ≡ post_events s k h)
      × (modify_table k delay h t ≡ post_table k h t) × (modify_answer k delay h t ≡ post_answer h)
  modify_now near on none = let zero : (delay == 0) ≡ true = eq-eqb delay 0 none in (
    no (is_too_far delay t) _ _ near ∙ (yes (on_table k t.entries) _ _ on ∙ yes (delay == 0) _ _ zero),
    no (is_too_far delay t) _ _ near ∙ (yes (on_table k t.entries) _ _ on ∙ yes (delay == 0) _ _ zero),
    no (is_too_far delay t) _ _ near ∙ (yes (on_table k t.entries) _ _ on ∙ yes (delay == 0) _ _ zero),
  )

  pub modify_again : is_too_far delay t ≡ false → on_table k t.entries ≡ true → 0 < delay → (modify_events s k delay h t ≡ [])
      × (modify_table k delay h t ≡ table_with k delay (table_without k t)) × (modify_answer k delay h t ≡ modified.Moved)
  modify_again near on some = let later : (delay == 0) ≡ false = not_zero delay some in (
    no (is_too_far delay t) _ _ near ∙ (yes (on_table k t.entries) _ _ on ∙ no (delay == 0) _ _ later),
    no (is_too_far delay t) _ _ near ∙ (yes (on_table k t.entries) _ _ on ∙ no (delay == 0) _ _ later),
    no (is_too_far delay t) _ _ near ∙ (yes (on_table k t.entries) _ _ on ∙ no (delay == 0) _ _ later),
  )
