-- What the delay table's sender did, and what an arming is in a script.
use Rattle.wq_script.proofs.Common.{◌≡◌, ℕ, ◌+◌, Bool, true, false, List, [], ◌∷◌, ◌++◌, refl, sym, ap, ◌∙◌, subst, arith, IsTrue, ◌↔◌, Layout, Event, Hold}
use Rattle.wq_script.proofs.Common.{Busy, pending, legal_next, Armed, armed_of, DelayTable, is_too_far, Sees, DelayState, IsFit, Arms, queue_events}
use Rattle.wq_script.proofs.Common.{queue_answer, queues_now, arm_events, arm_table, arm_answer, Seats, Publishes, Seated, GoesWithTable}
use Rattle.wq_words.specs.declared.answer.Answer.TheVariants as queueing
use Rattle.wq_words.specs.declared.answer.Armed.TheVariants as armed
use Rattle.wq_calls.proofs.GoingOn.{sees_none}
use Rattle.wq_meaning.proofs.Armings.{now_at_once, now_pending, now_never, arm_far, arm_now, arm_later}
use Rattle.wq_script.proofs.Seated.{Acts, delay_acts}
use Rattle.wq_script.proofs.Asked.{asked}
use Rattle.wq_script.proofs.Queueings.{not_pending, is_pending}

pub near_is : (b : Bool) → ¬ IsTrue b → b ≡ false
near_is true near = absurd (near refl)
near_is false near = refl

module _ (layout : Layout) (s t : Seats) (h : List Event) (g : Seated layout s h) (d : DelayState)
    (published : Publishes d.sender.seen (record { worker = s.worker; delay = d; senders = s.senders }) t) where
  -- the number of the delay table's sender
  abbrev pub p : ℕ
  p = layout.senders + 1

  pub acts : (xs : List Event) (n : ℕ) → Sees xs n s.delay.sender d.sender → Acts layout t h s.delay.sender.seen d.sender.seen xs n
  acts xs n sees = delay_acts layout s t h g d xs n sees published

  pub goes_with : (xs es : List Event) (now : DelayTable) → Seated layout t (h ++ xs) → xs ≡ es → d.table ≡ now → GoesWithTable layout (h ++ es) now s t
  goes_with xs es now seated events table = record {
    seated = subst (λ (x : List Event). Seated layout t (h ++ x)) events seated;
    table = published.table ∙ table;
    work = published.work;
  }

  pub goes_as : (xs es : List Event) (was now : DelayTable) → GoesWithTable layout (h ++ xs) was s t → xs ≡ es → was ≡ now
      → GoesWithTable layout (h ++ es) now s t
  goes_as xs es was now l events table =
      record { seated = subst (λ (x : List Event). Seated layout t (h ++ x)) events l.seated; table = l.table ∙ table; work = l.work }

  -- where the table's sender did what is said of its own number
  pub seated_by : (f : ℕ → List Event) (n : ℕ) → Sees (f s.delay.sender.number) n s.delay.sender d.sender
      → Acts layout t h s.delay.sender.seen d.sender.seen (f p) n
  seated_by f n sees = acts (f p) n (subst (λ (m : ℕ). Sees (f m) n s.delay.sender d.sender) g.delay.number_is sees)

  pub goes_nowhere : d ≡ s.delay → IsFit s.delay → GoesWithTable layout (h ++ []) s.delay.table s t
  goes_nowhere same fit =
      let a = acts [] 0 (subst (λ (e : DelayState). Sees [] 0 s.delay.sender e.sender) (sym same) (sees_none s.delay.sender fit.legal)) in
      goes_with [] [] s.delay.table a.seated refl (ap (λ (e : DelayState). e.table) same)

  module _ (k delay : ℕ) (fit : IsFit s.delay) where
    -- how an arming was answered, and what it led to
    abbrev pub IsArmedSo : Armed → Type 0
    IsArmedSo a = (a ≡ arm_answer k delay h s.delay.table)
        × GoesWithTable layout (h ++ arm_events p k delay h s.delay.table) (arm_table k delay h s.delay.table) s t

    -- an arming that was one queueing
    queued_so : (a : Armed) → is_too_far delay s.delay.table ≡ false → queues_now k delay h ≡ true → Seated layout t (h ++ queue_events p k h)
        → d.table ≡ s.delay.table → a ≡ armed_of (queue_answer k h) → IsArmedSo a
    queued_so a near now seated table told =
        let means = arm_now p k delay h s.delay.table near now in
        (told ∙ sym means.2, goes_with (queue_events p k h) _ _ seated (sym means.0) (table ∙ sym means.1))

    near : (a : Armed) → ((a ≡ armed.TooFar) ↔ IsTrue (is_too_far delay s.delay.table)) → ¬ (a ≡ armed.TooFar)
        → is_too_far delay s.delay.table ≡ false
    near a far other = near_is (is_too_far delay s.delay.table) (λ beyond. other (far.1 beyond))

    pub armed_so : (a : Armed) → ((a ≡ armed.TooFar) ↔ IsTrue (is_too_far delay s.delay.table)) → ¬ (a ≡ armed.Memory)
        → Arms k delay 1 a s.delay d → IsArmedSo a
    armed_so (armed.Queued f w) far room told =
        let n = near (armed.Queued f w) far (λ e. cc) in
        let b = asked layout t h p k s.delay.sender d.sender acts (queueing.Queued f w) g.delay.number_is (told.1.seen, told.2) in
        queued_so (armed.Queued f w) n (now_at_once k delay h told.0) b.1 told.1.table_is (ap armed_of b.0)
    armed_so armed.Pending far room told =
        let n = near armed.Pending far (λ e. cc) in
        let b = asked layout t h p k s.delay.sender d.sender acts queueing.Pending g.delay.number_is told.seen in
        let a = seated_by (λ m. Busy m k ∷ []) 0 told.seen in
        let set : pending h k ≡ true = is_pending h k (legal_next a.seated.wide h (Busy p k) [] a.seated.legal).2 in
        queued_so armed.Pending n (now_pending k delay h set) b.1 told.table_is (ap armed_of b.0)
    armed_so armed.Closed far room told =
        let n = near armed.Closed far (λ e. cc) in
        let b = asked layout t h p k s.delay.sender d.sender acts queueing.Closed g.delay.number_is told.1.seen in
        queued_so armed.Closed n (now_at_once k delay h told.0) b.1 told.1.table_is (ap armed_of b.0)
    armed_so armed.Draining far room told =
        let n = near armed.Draining far (λ e. cc) in
        let b = asked layout t h p k s.delay.sender d.sender acts queueing.Draining g.delay.number_is (told.1.seen, told.2) in
        queued_so armed.Draining n (now_at_once k delay h told.0) b.1 told.1.table_is (ap armed_of b.0)
    armed_so armed.OnTable far room told =
        let n = near armed.OnTable far (λ e. cc) in
        let a = seated_by (λ m. Hold m k ∷ []) 0 told.1.seen in
        let clear : pending h k ≡ false = not_pending h k (legal_next a.seated.wide h (Hold p k) [] a.seated.legal).2 in
        let means = arm_later p k delay h s.delay.table n (now_never k delay h told.0 clear) in
        (sym means.2, goes_with (Hold p k ∷ []) _ _ a.seated (sym means.0) (told.1.table_is ∙ sym means.1))
    armed_so armed.TooFar far room told =
        let means = arm_far p k delay h s.delay.table (far.0 refl) in
        (sym means.2, goes_as [] _ s.delay.table _ (goes_nowhere told fit) (sym means.0) (sym means.1))
    armed_so armed.Contended far room told = let a = acts _ 1 told.1.seen in absurd (omega (arith, a.none))
    armed_so armed.Memory far room told = absurd (room refl)
