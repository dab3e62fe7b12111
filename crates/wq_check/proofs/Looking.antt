-- How a queue looks tells of each next mark whether it may be shown, and what is left.
use Rattle.wq_check.proofs.Common.{subst, ◌≡◌, ◌≢◌, ℕ, suc, ◌+◌, ◌-◌, ◌<◌, ◌≤◌, ◌==◌, ◌↔◌, Bool, cond, List, [], ◌∷◌, length, drop, get_or, slice_get}
use Rattle.wq_check.proofs.Common.{Some, None, refl, sym, ap, ◌∙◌, arith, inl, inr, length-append, drop-drop, slice_get_past, slice_get_within}
use Rattle.wq_check.proofs.Common.{eq-eqb, ne_eqb, cases_eq, cases_lt, Layout, Event, number_count, accepted, begun, ended, slice_get_append}
use Rattle.wq_check.proofs.Common.{prefix_length, in_order, Mark, Queue, Start, End, queued, started, returned, unseen, MayShow, IsLegalTrace}
use Rattle.wq_check.proofs.Common.{surely_unbegun, times, times-cons, slice_get-drop}
use Rattle.std.proofs.Common.{◌⊎◌}
use Rattle.std.proofs.Common.{length-drop}
use Rattle.std.proofs.lemmas.Option.{slice_get-get_or}
use Rattle.wq_words.proofs.Prefixes.{prefix_on}
use Rattle.std.specs.List.{Contains}
use mathlib.Core.List.{IsPrefix}
use Rattle.wq_check.specs.Trace.{unreturned, unstarted, next_start}
use Rattle.wq_check.specs.declared.cause.Cause.{Cause}
use Rattle.wq_check.specs.declared.cause.Cause.TheVariants as cause
use Rattle.wq_check.specs.MarkCauses.{HasMarkCause}
use Rattle.wq_check.specs.TraceChecked.{SeenState, LooksAfter}
use Rattle.wq_words.proofs.Times.{Contains_from_times, none_from_times}
use Rattle.wq_words.proofs.Waits.{few_unbegun}
use Rattle.wq_check.proofs.Lists.{drop_some, never_empty}
use Rattle.wq_check.proofs.Shown.{trace_history, same_unseen, other_unseen}
use Rattle.wq_check.proofs.Unshown.{Shown, history_shown, fewer}

next_waits : (t : List Mark) (k : ℕ) → next_start t ≡ Some k → Contains (unstarted t) k
next_waits t k is =
    let at : unstarted t ≡ k ∷ drop (suc (length (started t))) (queued t) = drop_some (queued t) (length (started t)) k is in
    let one : ◌≡◌ {A = ℕ} (cond (k == k) 1 0) 1 = ap (λ (b : Bool). cond b 1 0) (eq-eqb k k refl) in
    Contains_from_times k (unstarted t) (rw at (omega (arith, one, times-cons k k (drop (suc (length (started t))) (queued t)))))

-- a mark against which the marks before say something may not be shown after them
pub refuses_mark : (t : List Mark) (m : Mark) (why : Cause) → HasMarkCause t m why → ¬ MayShow t m
refuses_mark t (Queue k) cause.Pending is may = may is
refuses_mark t (Start k) (cause.Runs j) is may =
    absurd (omega (arith, may.0, slice_get_within (started t) (length (returned t)) j is))
refuses_mark t (Start k) cause.NotWaiting is may = is.1 (next_waits t k may.1)
refuses_mark t (Start k) (cause.Next j) is may = is.3 (cc (is.2, may.1))
refuses_mark t (End k) cause.NothingRuns is may = absurd (omega (arith, is, slice_get_within (started t) (length (returned t)) k may))
refuses_mark t (End k) (cause.Runs j) is may = is.1 (cc (is.0, may))
refuses_mark t _ _ is may = absurd is

-- the first of what waits is next
abbrev pub IsNext : SeenState → ℕ → Type 0
IsNext c k = (c.running ≡ None) × (slice_get c.waiting 0 ≡ Some k)

-- the mark may be shown, by how the queue looks
abbrev AllowsMark : SeenState → Mark → Type 0
AllowsMark c (Queue k) = (get_or c.times k 0 ≡ 0) ⊎ ((get_or c.times k 0 ≡ 1) × IsNext c k)
AllowsMark c (Start k) = IsNext c k
AllowsMark c (End k) = c.running ≡ Some k

-- how long the three lists are
pub record Sizes (layout : Layout) (t : List Mark) : Type 0 where
  pub in_turn : length (returned t) ≤ length (started t)
  pub one : length (started t) ≤ length (returned t) + 1
  pub known : length (started t) ≤ length (queued t)
  pub front : IsPrefix (started t) (queued t)
  pub room : length (drop (length (started t)) (queued t)) ≤ number_count layout + 1

sizes : (layout : Layout) (t : List Mark) → IsLegalTrace layout t → Sizes layout t
sizes layout t legal =
    let has = trace_history layout t legal in
    let o = history_shown layout t has in
    let i = in_order layout has.0 has.1 in
    let all : length (begun has.0) ≡ length (started t) + length o.early = ap length o.started_is ∙ length-append (started t) o.early in
    let back = ap length o.returned_is in
    let known = ap length o.queued_is in
    let fits = few_unbegun layout has.0 has.1 in
    let rest : length (drop (length (begun has.0)) (accepted has.0)) ≡ length (accepted has.0) - length (begun has.0) = length-drop _ _ in
    let rest' : length (drop (length (started t)) (queued t)) ≡ length (queued t) - length (started t) = length-drop _ _ in
    record {
      in_turn = ordered t o (omega (arith, all, back, prefix_length (ended has.0) (begun has.0) i.ended_first));
      one = omega (arith, all, back, i.one_at_a_time);
      known = omega (arith, all, known, prefix_length (begun has.0) (accepted has.0) i.begun_first);
      front = subst (λ xs. IsPrefix (started t) xs) o.queued_is
          (prefix_on (started t) (begun has.0) (accepted has.0) (o.early, sym o.started_is) i.begun_first);
      room = omega (arith, rest, rest', fits, all, known, o.few);
    }
  where
    ordered : (u : List Mark) {h : List Event} (o : Shown u h) → length (returned u) ≤ length (started u) + length o.early
        → length (returned u) ≤ length (started u)
    ordered u o le = elim (cases_lt (length o.early) 1) [
      | inl less ↦ omega arith
      | inr some ↦ omega (arith, o.idle (omega (arith, some)))
    ]

-- behind the first stands none, exactly where none stands at all or only the first
behind : (k : ℕ) (w : List ℕ) → (times k (drop 1 w) ≡ 0) ↔ ((times k w ≡ 0) ⊎ ((times k w ≡ 1) × (slice_get w 0 ≡ Some k)))
behind k [] = (λ none. inl none, λ any. refl)
behind k (x ∷ w) = elim (cases_eq x k) [
  | inl same ↦
      let one : ◌≡◌ {A = ℕ} (cond (x == k) 1 0) 1 = ap (λ (b : Bool). cond b 1 0) (eq-eqb x k same) in
      let all = times-cons k x w in (
        λ none. inr (omega (arith, all, one, none), ap Some same),
        λ any. elim any [
          | inl zero' ↦ absurd (omega (arith, all, one, zero'))
          | inr first ↦ omega (arith, all, one, first.0)
        ],
      )
  | inr ne ↦
      let none' : ◌≡◌ {A = ℕ} (cond (x == k) 1 0) 0 = ap (λ (b : Bool). cond b 1 0) (ne_eqb x k ne) in
      let all = times-cons k x w in
      (λ none. inl (omega (arith, all, none', none)), λ any. elim any [ inl zero' ↦ omega (arith, all, zero') | inr first ↦ absurd (ne (cc (first.1))) ])
]

module _ (c : SeenState) (t : List Mark) (o : LooksAfter c t) where
  pub lengths : Sizes c.layout t
  lengths = sizes c.layout t o.legal

  pub idle-rests : (c.running ≡ None) ↔ (length (started t) ≡ length (returned t))
  idle-rests = (
    λ none. elim (cases_lt (length (returned t)) (length (started t))) [
      | inl lt ↦ let some = slice_get-get_or (started t) (length (returned t)) 0 lt in absurd (cc (some, o.running_is, none))
      | inr ge ↦ omega (arith, lengths.in_turn)
    ],
    λ same. o.running_is ∙ slice_get_past (started t) (length (returned t)) (omega (arith, same)),
  )

  pub next_is : slice_get c.waiting 0 ≡ slice_get (queued t) (length (started t))
  next_is = ap (λ w. slice_get w 0) o.waiting_is ∙ slice_get-drop (length (started t)) (queued t)

  passed_over : (k : ℕ) → times k (surely_unbegun t) ≡ times k (drop (unseen t) c.waiting)
  passed_over k = ap (times k) (sym (drop-drop (unseen t) (length (started t)) (queued t)) ∙ ap (drop (unseen t)) (sym o.waiting_is))

  queue-to : (k : ℕ) → k < c.layout.items → AllowsMark c (Queue k) → times k (surely_unbegun t) ≡ 0
  queue-to k lt (inl none) =
      let zero' : times k (drop (length (started t)) (queued t)) ≡ 0 = ap (times k) (sym o.waiting_is) ∙ (sym (o.times_are k lt) ∙ none) in
      fewer k (length (started t)) (unseen t) (queued t) zero'
  queue-to k lt (inr first) =
      let one = same_unseen t (idle-rests.0 first.1.0) in
      passed_over k ∙ (ap (λ n. times k (drop n c.waiting)) one ∙ (behind k c.waiting).1 (inr (sym (o.times_are k lt) ∙ first.0, first.1.1)))

  queue-from : (k : ℕ) → k < c.layout.items → times k (surely_unbegun t) ≡ 0 → AllowsMark c (Queue k)
  queue-from k lt may =
      elim (cases_eq (length (started t)) (length (returned t))) [
        | inr ne ↦ inl (o.times_are k lt ∙ (ap (λ n. times k (drop n c.waiting)) (sym (other_unseen t ne)) ∙ (sym (passed_over k) ∙ may)))
        | inl e ↦
            let none : times k (drop 1 c.waiting) ≡ 0 = ap (λ n. times k (drop n c.waiting)) (sym (same_unseen t e)) ∙ (sym (passed_over k) ∙ may) in
            elim ((behind k c.waiting).0 none) [
              | inl zero' ↦ inl (o.times_are k lt ∙ zero')
              | inr first ↦ inr (o.times_are k lt ∙ first.0, (idle-rests.1 e, first.1))
            ]
      ]

  pub queue_none : (k : ℕ) → k < c.layout.items → get_or c.times k 0 ≡ 0 → MayShow t (Queue k)
  queue_none k lt none = none_from_times k (surely_unbegun t) (queue-to k lt (inl none))

  pub queue_next : (k : ℕ) → k < c.layout.items → get_or c.times k 0 ≡ 1 → IsNext c k → MayShow t (Queue k)
  queue_next k lt one first = none_from_times k (surely_unbegun t) (queue-to k lt (inr (one, first)))

  queue_refused : (k : ℕ) → k < c.layout.items → (AllowsMark c (Queue k) → ⊥) → Contains (surely_unbegun t) k
  queue_refused k lt refused = elim (cases_lt (times k (surely_unbegun t)) 1) [
    | inl less ↦ absurd (refused (queue-from k lt (omega (arith, less))))
    | inr some ↦ Contains_from_times k (surely_unbegun t) some
  ]

  pub queue_again : (k : ℕ) → k < c.layout.items → get_or c.times k 0 ≢ 0 → ¬ IsNext c k → Contains (surely_unbegun t) k
  queue_again k lt some behind = queue_refused k lt (λ a. elim a [ inl none ↦ some none | inr first ↦ behind first.1 ])

  pub queue_twice : (k : ℕ) → k < c.layout.items → get_or c.times k 0 ≢ 0 → get_or c.times k 0 ≢ 1 → Contains (surely_unbegun t) k
  queue_twice k lt some more = queue_refused k lt (λ a. elim a [ inl none ↦ some none | inr first ↦ more first.0 ])

  pub waits_none : (k : ℕ) → k < c.layout.items → get_or c.times k 0 ≡ 0 → ¬ Contains (unstarted t) k
  waits_none k lt none = none_from_times k (unstarted t) (ap (times k) (sym o.waiting_is) ∙ (sym (o.times_are k lt) ∙ none))

  pub waits_some : (k : ℕ) → k < c.layout.items → get_or c.times k 0 ≢ 0 → Contains (unstarted t) k
  waits_some k lt some = elim (cases_lt (times k (unstarted t)) 1) [
    | inl less ↦ absurd (some (o.times_are k lt ∙ (ap (times k) o.waiting_is ∙ omega (arith, less))))
    | inr one ↦ Contains_from_times k (unstarted t) one
  ]

  -- something waits, so there is a first
  pub first_of : (k : ℕ) → Contains (unstarted t) k → slice_get c.waiting 0 ≡ None → ⊥
  first_of k is none = never_empty c.waiting k (rw (← o.waiting_is) at is) none

  -- what is left is what waits, behind what runs
  pub left_rests : c.running ≡ None → unreturned t ≡ c.waiting
  left_rests none = ap (λ n. drop n (queued t)) (sym (idle-rests.0 none)) ∙ sym o.waiting_is

  pub left_runs : (k : ℕ) → c.running ≡ Some k → unreturned t ≡ k ∷ c.waiting
  left_runs k runs =
      let at : slice_get (started t) (length (returned t)) ≡ Some k = sym o.running_is ∙ runs in
      let within : length (returned t) < length (started t) = slice_get_within (started t) (length (returned t)) k at in
      let same : length (started t) ≡ suc (length (returned t)) = omega (arith, within, lengths.one) in
      let there : slice_get (queued t) (length (returned t)) ≡ Some k =
      ap (λ xs. slice_get xs (length (returned t))) (sym lengths.front.1) ∙ slice_get_append (started t) lengths.front.0 (length (returned t)) k at in
      drop_some (queued t) (length (returned t)) k there ∙ ap (λ xs. k ∷ xs) (ap (λ n. drop n (queued t)) (sym same) ∙ sym o.waiting_is)
