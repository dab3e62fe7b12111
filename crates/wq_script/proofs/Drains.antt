-- A drain that resumes, on the running words and in a script.
use Rattle.wq_script.proofs.Common.{◌≡◌, ℕ, ◌+◌, ◌*◌, ◌<◌, ◌≤◌, ◌==◌, ◌&&◌, Bool, true, false, not, suc, List, [], ◌∷◌, ◌++◌, length, refl, sym, ap, ◌∙◌, subst, arith}
use Rattle.wq_script.proofs.Common.{if◌then◌else◌, append_assoc, append-nil, filter, eq-eqb, ne_eqb, eqb-true, drop, drop_of_length-le, None, slice_get_past, Layout, Event}
use Rattle.wq_script.proofs.Common.{Drain, Resume, accepted, begun, ended, shut, draining, IsRunning, IsLegal, prefix_length, begun-append, ended-append, is_ours}
use Rattle.wq_script.proofs.Common.{WorkerState, Moves, follow_of, ended_since, ends_at, left_in, begin_drain, end_drain, ScriptState}
use Rattle.wq_script.proofs.Common.{after_row, after_drain, executions_few, Lists, Seats, Tally, Publishes, Seated, Quiet, Reaches, RunsAs, Tallied, Meets}
use Rattle.wq_words.specs.Legal.{HasRunOut}
use Rattle.wq_words.proofs.Closed.{shut_from_IsShut, shut_from_open, closed_from_IsClosed}
use Rattle.wq_words.proofs.Order.{in_order}
use Rattle.wq_worker.specs.declared.ran.Ran.{Ran}
use Rattle.wq_worker.specs.declared.drained.Drained.{Drained}
use Rattle.wq_worker.specs.declared.drained.Drained.TheVariants.{Empty, TooLong}
use Rattle.wq_worker.specs.Step.{stays}
use Rattle.wq_worker.specs.Rows.{RowBy, none, more, Shuts, was_shut, drains, Resumes, stays_closed, reopens, Drains}
use Rattle.wq_worker.proofs.Seats.{adds_none}
use Rattle.wq_worker.proofs.Step.{moves_on}
use Rattle.wq_meaning.proofs.Drains.{executions_shut, nothing_executed, begun_anew, begun_before, begun_shut, begun_few, begun_begun, begun_ended}
use Rattle.wq_meaning.proofs.Drains.{ended_now, not_draining_ended, some_left_ended, ended_few, ended_ended}
use Rattle.wq_script.proofs.Executed.{exact}
use Rattle.wq_script.proofs.Meetings.{engine, meets_so, ran_meets}
use Rattle.wq_script.proofs.Queueings.{does_drain, closed_not_draining}
use Rattle.wq_script.proofs.Running.{may_be}
use Rattle.wq_script.proofs.Seated.{worker_acts}
use Rattle.wq_script.proofs.Tallies.{Own, tallied_own}

-- the worker made these events, and its work was not touched
record HasMade (es : List Event) (a b : WorkerState Lists) : Type 0 where
  moves : Moves es 0 a b
  work : b.work ≡ a.work
  left : b.unqueued ≡ a.unqueued

makes_none : (a b : WorkerState Lists) → IsLegal a.layout a.seen → b ≡ a → HasMade [] a b
makes_none a b legal same = subst (λ (w : WorkerState Lists). HasMade [] a w) (sym same) record {
  moves = record { queue = refl; layout = refl; number = refl; tries = refl; adds = adds_none a.number a.seen; legal = legal };
  work = refl;
  left = refl;
}

makes_on : (xs ys : List Event) (a b c : WorkerState Lists) → HasMade xs a b → HasMade ys b c → HasMade (xs ++ ys) a c
makes_on xs ys a b c p q = record { moves = moves_on xs ys 0 0 a b c p.moves q.moves; work = q.work ∙ p.work; left = q.left ∙ p.left }

-- how it begins a drain, and how it ends one
begins_as : (a b : WorkerState Lists) → IsLegal a.layout a.seen → Shuts a b → (es : List Event) × HasMade es a b × (a.seen ++ es ≡ begin_drain a.seen)
begins_as a b legal (was_shut is same) = ([], makes_none a b legal same, append-nil a.seen ∙ sym (begun_before a.seen (shut_from_IsShut a.seen is)))
begins_as a b legal (drains opens moves work left) =
    (Drain ∷ [], record { moves = moves; work = work; left = left }, sym (begun_anew a.seen (shut_from_open a.seen opens)))

ends_as : (a b : WorkerState Lists) → IsLegal a.layout a.seen → (left_in a.seen == 0) ≡ true → Resumes a b
    → (es : List Event) × HasMade es a b × (a.seen ++ es ≡ end_drain a.seen)
ends_as a b legal all (stays_closed is same) = (
  [],
  makes_none a b legal same,
  append-nil a.seen ∙ sym (not_draining_ended a.seen (closed_not_draining a.seen (closed_from_IsClosed a.seen is))),
)
ends_as a b legal all (reopens draining moves work left) =
    (Resume ∷ [], record { moves = moves; work = work; left = left }, sym (ended_now a.seen (does_drain a.seen draining).1 all))

-- what a drain without an execution ran
no_steps : (P : Ran → Type 0) (n : ℕ) (a b : WorkerState Lists) → n ≡ 0 → RowBy may_be stays P n a b → a ≡ b
no_steps P n a b is (none c) = refl
no_steps P n a b is (more m r c d e row passes runs) = absurd (omega (arith, is))

none_left_in : (h : List Event) → HasRunOut h → (left_in h == 0) ≡ true
none_left_in h out = eq-eqb (left_in h) 0 (omega (arith, out.1))

some_left_in : (h : List Event) (left : ℕ) → left + length (ended h) ≡ length (accepted h) → 0 < left → (left_in h == 0) ≡ false
some_left_in h left is some = ne_eqb (left_in h) 0 (λ zero. omega (arith, zero, is, some))

abbrev pub is_empty : Drained → Bool
is_empty Empty = true
is_empty (TooLong left) = false

module _ (layout : Layout) (s t : Seats) (h : List Event) (g : Seated layout s h) where
  -- the seats where the worker went on to w
  abbrev With : WorkerState Lists → Seats
  With w = record { worker = w; delay = s.delay; senders = s.senders }

  was_legal : IsLegal s.worker.layout s.worker.seen
  was_legal = subst (λ (l : Layout). IsLegal l s.worker.seen) (sym g.sender.layout_is) g.seen

  -- what the worker made came to the history, and nothing else
  made : (es : List Event) (w : WorkerState Lists) → HasMade es s.worker w → Publishes w.seen (With w) t
      → Reaches layout (h ++ es) s t × (s.worker.seen ≡ h) × (w.seen ≡ h ++ es)
  made es w m all =
      let a = (worker_acts layout s t h g w es 0 m.moves all).0 in (
        record {
          seated = a.seated;
          work = record {
            work_is = all.work.work_is ∙ m.work;
            unqueued_is = all.work.unqueued_is ∙ m.left;
            tries_is = all.work.tries_is ∙ m.moves.tries;
          };
          table = all.table;
        },
        a.alone,
        a.is,
      )

  -- also between two parts of it
  between : (xs ys : List Event) (b w : WorkerState Lists) → HasMade xs s.worker b → HasMade ys b w
      → Publishes w.seen (With w) t → b.seen ≡ h ++ xs
  between xs ys b w p q all =
      let m = makes_on xs ys s.worker b w p q in
      let both = worker_acts layout s t h g w (xs ++ ys) 0 m.moves all in
      let quiet : Quiet g.wide s.worker.number s.worker.seen w.seen = record {
        legal = subst (λ (l : Layout). IsLegal l w.seen) (m.moves.layout ∙ g.sender.layout_is) m.moves.legal;
        rest = m.moves.adds.new;
        is = m.moves.adds.is;
        none = subst (λ (n : ℕ). filter (λ e. not (is_ours n e)) m.moves.adds.new ≡ []) (sym g.sender.number_is) both.1;
      } in
      (exact g.wide s.worker.number s.worker.seen b.seen w.seen xs 0 quiet p.moves.adds (q.moves.adds.new, sym q.moves.adds.is)).0
      ∙ ap (λ (v : List Event). v ++ xs) both.0.alone

  pub drained_none : (w : WorkerState Lists) (d : Drained) → Drains may_be 0 d s.worker w
      → Publishes w.seen (With w) t
      → Reaches layout (end_drain (begin_drain h)) s t × (is_empty d ≡ (left_in (begin_drain h) == 0))
  drained_none w Empty told all =
      let b = told.began in
      let same : b ≡ told.last = no_steps _ told.steps b told.last (omega (arith, told.within)) told.row in
      let all_ended = none_left_in b.seen (subst (λ (v : WorkerState Lists). HasRunOut v.seen) (sym same) told.run_out) in
      let x = begins_as s.worker b was_legal told.shuts in
      let y = ends_as b w x.1.moves.legal all_ended (subst (λ (v : WorkerState Lists). Resumes v w) (sym same) told.resumes) in
      let here : b.seen ≡ h ++ x.0 = between x.0 y.0 b w x.1 y.1 all in
      let went = made (x.0 ++ y.0) w (makes_on x.0 y.0 s.worker b w x.1 y.1) all in
      let now : b.seen ≡ begin_drain h = here ∙ (ap (λ (v : List Event). v ++ x.0) (sym went.1) ∙ (x.2 ∙ ap begin_drain went.1)) in
      let whole : h ++ (x.0 ++ y.0) ≡ end_drain (begin_drain h) = sym (append_assoc h x.0 y.0)
      ∙ (ap (λ (v : List Event). v ++ y.0) (sym here) ∙ (y.2 ∙ ap end_drain now)) in (
        subst (λ (v : List Event). Reaches layout v s t) whole went.0,
        sym all_ended ∙ ap (λ (v : List Event). left_in v == 0) now,
      )
  drained_none w (TooLong left) told all =
      let same : told.began ≡ w = no_steps _ 0 told.began w refl told.row in
      let x = begins_as s.worker w was_legal (subst (λ (v : WorkerState Lists). Shuts s.worker v) same told.shuts) in
      let went = made x.0 w x.1 all in
      let begins : h ++ x.0 ≡ begin_drain h = ap (λ (v : List Event). v ++ x.0) (sym went.1) ∙ (x.2 ∙ ap begin_drain went.1) in
      let some : (left_in (begin_drain h) == 0) ≡ false = ap (λ (v : List Event). left_in v == 0) (sym (went.2 ∙ begins))
      ∙ some_left_in w.seen left told.left_is told.some_left in (
        subst (λ (v : List Event). Reaches layout v s t) (begins ∙ sym (some_left_ended (begin_drain h) some)) went.0,
        sym some,
      )

-- the counts stay, and nothing runs, where a drain begins or ends
module _ (x : Tally) (w : ℕ) where
  abbrev IsIdle : List Event → Type 0
  IsIdle h = Tallied x w h × (¬ IsRunning h)

  idle_more : (e : Event) (h : List Event) → begun (e ∷ []) ≡ [] → ended (e ∷ []) ≡ [] → Own w (e ∷ []) → IsIdle h → IsIdle (h ++ e ∷ [])
  idle_more e h no_begin no_end own is =
      let b : begun (h ++ e ∷ []) ≡ begun h = begun-append h (e ∷ []) ∙ (ap (λ (v : List ℕ). begun h ++ v) no_begin ∙ append-nil (begun h)) in
      let f : ended (h ++ e ∷ []) ≡ ended h = ended-append h (e ∷ []) ∙ (ap (λ (v : List ℕ). ended h ++ v) no_end ∙ append-nil (ended h)) in
      (tallied_own x w h (e ∷ []) is.0 own, λ runs. is.1 (omega (arith, runs, ap length b, ap length f)))

  idle_begun : (h : List Event) → IsIdle h → IsIdle (begin_drain h)
  idle_begun h is = each (shut h)
    where
      each : (b : Bool) → IsIdle (if b then h else h ++ Drain ∷ [])
      each true = is
      each false = idle_more Drain h refl refl record { queued = refl; busy = refl; refused = refl } is

  idle_ended : (h : List Event) → IsIdle h → IsIdle (end_drain h)
  idle_ended h is = each (draining h && (left_in h == 0))
    where
      each : (b : Bool) → IsIdle (if b then h ++ Resume ∷ [] else h)
      each true = idle_more Resume h refl refl record { queued = refl; busy = refl; refused = refl } is
      each false = is

-- how much a drain adds
pub drain_few : (layout : Layout) (s : ScriptState) (limit : ℕ) → ((k : ℕ) → length (follow_of s.follows k) ≤ 4)
    → length (after_drain layout s limit) ≤ length s.history + 11 * limit + 2
drain_few layout s limit short =
    let begins = begun_few s.history in
    let ran : List Event = after_row layout (record s { history = begin_drain s.history }) limit None in
    let runs : length ran ≤ length (begin_drain s.history) + 11 * limit =
    executions_few layout.senders s.follows (ends_at None) limit (begin_drain s.history) short in
    let ends : length (end_drain ran) ≤ suc (length ran) = ended_few ran in
    omega (arith, begins, runs, ends)

module _ (layout : Layout) (x : Tally) (s : ScriptState) (limit : ℕ) where
  -- an engine that made a drain without an execution
  none_meets : (a b : Seats) (v : ScriptState) → Meets (engine layout a x) v → Reaches layout (end_drain (begin_drain v.history)) a b
      → Meets (engine layout b x) (record v { history = end_drain (begin_drain v.history) })
  none_meets a b v m goes =
      let is = idle_ended x layout.senders (begin_drain v.history) (idle_begun x layout.senders v.history (m.tally, m.idle)) in
      meets_so layout a b x x v (end_drain (begin_drain v.history)) v.table m goes.seated is.1 is.0 (ap (λ (l : Lists). l.follows) goes.work.work_is)
      (goes.table ∙ m.table)

  -- the history after the executions of a drain
  pub ran : List Event
  ran = after_row layout (record s { history = begin_drain s.history }) limit None

  -- a drain at whose beginning nothing is left
  pub drained_at_once : (a b : Seats) → Meets (engine layout a x) s → Reaches layout (end_drain (begin_drain s.history)) a b
      → (left_in (begin_drain s.history) == 0) ≡ true
      → Meets (engine layout b x) (record s { history = after_drain layout s limit }) × ([] ≡ ended_since s.history (after_drain layout s limit))
  unfolding ran
  drained_at_once a b m goes all_ended =
      let h : List Event = s.history in let g : List Event = begin_drain h in
      let order = in_order m.seated.wide h m.seated.legal in
      let few : length (accepted g) ≤ length (begun g) = omega (
        arith,
        eqb-true (left_in g) 0 all_ended,
        ap (λ (v : List ℕ). length v) (begun_ended h),
        ap (λ (v : List ℕ). length v) (begun_begun h),
        prefix_length (ended h) (begun h) order.ended_first,
      ) in
      let still : ran ≡ g = nothing_executed layout.senders s.follows (ends_at None) limit g (begun_shut h)
      (slice_get_past (accepted g) (length (begun g)) few) in
      let same : end_drain g ≡ after_drain layout s limit = ap end_drain (sym still) in
      let ends : ended (end_drain g) ≡ ended h = ended_ended g ∙ begun_ended h in
      let empty : drop (length (ended h)) (ended h) ≡ [] = drop_of_length-le (ended h) (omega arith) in (
        subst (λ (v : List Event). Meets (engine layout b x) (record s { history = v })) same (none_meets a b s m goes),
        sym empty ∙ (ap (drop (length (ended h))) (sym ends) ∙ ap (ended_since h) same),
      )

  -- the seats after the executions of a drain, which was begun with something left
  pub ran_meets_so : (a b c : Seats) (ks : List ℕ) → Meets (engine layout a x) s → Reaches layout (end_drain (begin_drain s.history)) a b
      → (left_in (begin_drain s.history) == 0) ≡ false → RunsAs layout limit None ks b c → Meets (engine layout c x) (record s { history = ran })
  unfolding ran
  ran_meets_so a b c ks m goes some runs =
      let g : List Event = begin_drain s.history in
      let begins : Meets (engine layout b x) (record s { history = g }) =
      subst (λ (y : List Event). Meets (engine layout b x) (record s { history = y })) (some_left_ended g some) (none_meets a b s m goes) in
      (ran_meets layout b c x (record s { history = g }) limit (ends_at None) ks begins (runs g begins.seated begins.idle begins.lists)).0

  -- a drain of some executions, by seats that begin it, execute, and end it where nothing is left
  pub drained_in_turn : (a b c d : Seats) (ks : List ℕ) → Meets (engine layout a x) s → Reaches layout (end_drain (begin_drain s.history)) a b
      → (left_in (begin_drain s.history) == 0) ≡ false → RunsAs layout limit None ks b c
      → ((h : List Event) → Seated layout c h → Reaches layout (end_drain (begin_drain h)) c d)
      → Meets (engine layout d x) (record s { history = after_drain layout s limit }) × (ks ≡ ended_since s.history (after_drain layout s limit))
  unfolding ran
  drained_in_turn a b c d ks m goes some runs ends =
      let h : List Event = s.history in let g : List Event = begin_drain h in
      let v : ScriptState = record s { history = g } in
      let begins : Meets (engine layout b x) v =
      subst (λ (y : List Event). Meets (engine layout b x) (record s { history = y })) (some_left_ended g some) (none_meets a b s m goes) in
      let r = ran_meets layout b c x v limit (ends_at None) ks begins (runs g begins.seated begins.idle begins.lists) in
      let u : ScriptState = record s { history = ran } in
      let shuts : shut ran ≡ true = executions_shut layout.senders s.follows (ends_at None) limit g ∙ begun_shut h in
      let same : begin_drain ran ≡ ran = begun_before ran shuts in
      let done : Meets (engine layout d x) (record s { history = end_drain (begin_drain ran) }) = none_meets c d u r.0 (ends ran r.0.seated) in (
        subst (λ (y : List Event). Meets (engine layout d x) (record s { history = end_drain y })) same done,
        r.1 ∙ (λ i. drop (length (begun_ended h i)) (sym (ended_ended ran) i)),
      )
