-- An engine that goes on meets the state that a script goes on to.
use Rattle.wq_script.proofs.Common.{◌≡◌, ◌≢◌, ℕ, ◌<◌, Bool, true, false, List, [], ◌∷◌, ◌++◌, length, refl, sym, ap, ◌∙◌, subst, arith, if◌then◌else◌}
use Rattle.wq_script.proofs.Common.{append-nil, Layout, Event, Close, closed, begun, ended, IsRunning, IsLegal, owner_seat, Answer, DelayTable, queue_events}
use Rattle.wq_script.proofs.Common.{queue_answer, close_events, after_executions, ended_since, ScriptState, begun-append, ended-append, Engine, Seats, Tally}
use Rattle.wq_script.proofs.Common.{Lists, Seated, ListsFit, Asks, Reaches, HasExecuted, HasFollowLists, GoesWithTable, Tallied, counted, Meets, Does, size, AsksOf}
use Rattle.wq_script.proofs.Common.{state_after, lines, line, Command, length-append, answer_text}
use Rattle.wq_meaning.proofs.Sizes.{queue_few}
use Rattle.wq_script.proofs.Tallies.{Foreign, idle_on, tallied_own, all_own, legal_has}
use Rattle.wq_script.proofs.Answered.{queue_counts}

abbrev pub engine : Layout → Seats → Tally → Engine
engine layout seats tally = record { layout = layout; seats = seats; tally = tally }

-- the lists stay where the work does
pub same_lists : (layout : Layout) (a b : Seats) → b.worker.work.follows ≡ a.worker.work.follows → HasFollowLists layout a → HasFollowLists layout b
same_lists layout a b same lists = record {
  count = ap (λ v. length v.items) same ∙ lists.count;
  fit = subst (λ v. ListsFit layout.items v.items) (sym same) lists.fit;
}

-- the seats went on to this history, and the lists stayed
pub meets_so : (layout : Layout) (a b : Seats) (x u : Tally) (s : ScriptState) (h : List Event) (now : DelayTable) → Meets (engine layout a x) s
    → Seated layout b h → ¬ IsRunning h → Tallied u layout.senders h → b.worker.work.follows ≡ a.worker.work.follows → b.delay.table ≡ now
    → Meets (engine layout b u) (record s { history = h; table = now })
meets_so layout a b x u s h now m seated idle tally lists table = record {
  seated = seated;
  idle = idle;
  tally = tally;
  table = table;
  follows = ap (λ v. v.items) lists ∙ m.follows;
  lists = same_lists layout a b lists m.lists;
  short = m.short;
}

-- events of a seat that is not the worker's
pub meets_on : (layout : Layout) (a b : Seats) (x u : Tally) (s : ScriptState) (es : List Event) (now : DelayTable)
    → Meets (engine layout a x) s → Seated layout b (s.history ++ es) → Foreign layout.senders es → Tallied u layout.senders (s.history ++ es)
    → b.worker.work ≡ a.worker.work → b.delay.table ≡ now → Meets (engine layout b u) (record s { history = s.history ++ es; table = now })
meets_on layout a b x u s es now m seated foreign tally work table =
    meets_so layout a b x u s (s.history ++ es) now m seated (idle_on layout.senders s.history es foreign m.idle) tally
    (ap (λ (l : Lists). l.follows) work) table

-- a queueing by a sender of the script
pub asked_meets : (layout : Layout) (a b : Seats) (x u : Tally) (s : ScriptState) (sender k : ℕ) (got : Answer) → sender < layout.senders
    → Meets (engine layout a x) s → Asks layout sender k got s.history a b → u ≡ counted got x
    → Meets (engine layout b u) (record s { history = s.history ++ queue_events sender k s.history })
asked_meets layout a b x u s sender k got lt m asks counts =
    let other : sender ≢ layout.senders = λ is. absurd (omega (arith, is, lt)) in
    let no_owner : sender ≢ owner_seat = λ is. absurd (omega (arith, is, lt, layout.in_limits.2.1)) in
    let c = queue_counts layout.senders sender k s.history x other no_owner m.tally in
    let same : u ≡ counted (queue_answer k s.history) x = counts ∙ ap (λ (y : Answer). counted y x) asks.answer in
    let P : Tally → Type 0 = λ v. Tallied v layout.senders (s.history ++ queue_events sender k s.history) in
    meets_on layout a b x u s (queue_events sender k s.history) s.table m asks.seated c.1 (subst P (sym same) c.0) asks.work.work_is
    (asks.table ∙ m.table)

-- a command that asks for a queueing, and writes how that was answered
pub asked_does : (e : Engine) (b : Seats) (u : Tally) (before now text : List ℕ) (sender : ℕ) (number : Layout → ℕ) (got : Answer) (c : Command)
    → sender < e.layout.senders → AsksOf sender number got e.seats b → u ≡ counted got e.tally → now ≡ before ++ line text → text ≡ answer_text got
    → ((s : ScriptState) → state_after e.layout s c ≡ record s { history = s.history ++ queue_events sender (number e.layout) s.history })
    → ((s t : ScriptState) → lines e.layout s t c ≡ line (answer_text (queue_answer (number e.layout) s.history)))
    → Does e (engine e.layout b u) before now c
asked_does e b u before now text sender number got c lt asks counts written says after writes = record {
  layout = refl;
  meets = λ s m. subst (λ (t : ScriptState). Meets (engine e.layout b u) t) (sym (after s))
      (asked_meets e.layout e.seats b e.tally u s sender (number e.layout) got lt m (asks e.layout s.history m.seated) counts);
  lines = λ s m few. written ∙ ap (λ (x : List ℕ). before ++ x)
      (ap line (says ∙ ap answer_text (asks e.layout s.history m.seated).answer) ∙ sym (writes s (state_after e.layout s c)));
  room = λ s m. let k = number e.layout in
      omega (arith, ap size (after s), length-append s.history (queue_events sender k s.history), queue_few sender k s.history);
}

-- nothing happened
pub looked_meets : (layout : Layout) (a b : Seats) (x : Tally) (s : ScriptState) → Meets (engine layout a x) s → Reaches layout s.history a b
    → Meets (engine layout b x) s
looked_meets layout a b x s m goes =
    meets_so layout a b x x s s.history s.table m goes.seated m.idle m.tally (ap (λ (l : Lists). l.follows) goes.work.work_is) (goes.table ∙ m.table)

-- the queue was closed
pub close_meets : (layout : Layout) (a b : Seats) (x : Tally) (s : ScriptState) → Meets (engine layout a x) s
    → Reaches layout (s.history ++ close_events s.history) a b → Meets (engine layout b x) (record s { history = s.history ++ close_events s.history })
close_meets layout a b x s m goes =
    meets_so layout a b x x s (s.history ++ close_events s.history) s.table m goes.seated (each (closed s.history)).1 (each (closed s.history)).0
    (ap (λ (l : Lists). l.follows) goes.work.work_is) (goes.table ∙ m.table)
  where
    same : Tallied x layout.senders (s.history ++ []) × (¬ IsRunning (s.history ++ []))
    same = (
      subst (λ (h : List Event). Tallied x layout.senders h) (sym (append-nil s.history)) m.tally,
      subst (λ (h : List Event). ¬ IsRunning h)
          (sym (append-nil s.history)) m.idle,
    )

    closes : Tallied x layout.senders (s.history ++ Close ∷ []) × (¬ IsRunning (s.history ++ Close ∷ []))
    closes =
        let b : begun (s.history ++ Close ∷ []) ≡ begun s.history = begun-append s.history (Close ∷ []) ∙ append-nil (begun s.history) in
        let e : ended (s.history ++ Close ∷ []) ≡ ended s.history = ended-append s.history (Close ∷ []) ∙ append-nil (ended s.history) in (
          tallied_own x layout.senders s.history (Close ∷ []) m.tally record { queued = refl; busy = refl; refused = refl },
          λ runs. m.idle (omega (arith, runs, ap length b, ap length e)),
        )

    each : (c : Bool) → Tallied x layout.senders (s.history ++ (if c then [] else Close ∷ [])) × (¬ IsRunning (s.history ++ (if c then [] else Close ∷ [])))
    each true = same
    each false = closes

-- the worker executed
pub ran_meets : (layout : Layout) (a b : Seats) (x : Tally) (s : ScriptState) (limit : ℕ) (ends : ℕ → Bool) (ran : List ℕ)
    → Meets (engine layout a x) s → HasExecuted layout s.history limit ends a b ran
    → Meets (engine layout b x) (record s { history = after_executions layout.senders s.follows ends limit s.history })
    × (ran ≡ ended_since s.history (after_executions layout.senders s.follows ends limit s.history))
ran_meets layout a b x s limit ends ran m r =
    let all : List Event = after_executions layout.senders a.worker.work.follows.items ends limit s.history in
    let fit = r.seated.wide.in_limits.2.1 in
    let has = legal_has r.seated.wide s.history r.new (subst (λ (h : List Event). IsLegal r.seated.wide h) r.new_is r.seated.legal) in
    let own = all_own r.seated.wide layout.senders r.new fit has r.ours in
    let tally : Tallied x layout.senders all =
    subst (λ (h : List Event). Tallied x layout.senders h) (sym r.new_is) (tallied_own x layout.senders s.history r.new m.tally own) in
    let same : all ≡ after_executions layout.senders s.follows ends limit s.history =
    ap (λ f. after_executions layout.senders f ends limit s.history) m.follows in (
      subst (λ (h : List Event). Meets (engine layout b x) (record s { history = h })) same
          (meets_so layout a b x x s all s.table m r.seated r.idle tally r.lists (r.table ∙ m.table)),
      r.ran_is ∙ ap (ended_since s.history) same,
    )

-- the delay table's sender did this
pub table_meets : (layout : Layout) (a b : Seats) (x u : Tally) (s : ScriptState) (es : List Event) (now : DelayTable) → Meets (engine layout a x) s
    → GoesWithTable layout (s.history ++ es) now a b → Tallied u layout.senders (s.history ++ es) → Foreign layout.senders es
    → Meets (engine layout b u) (record s { history = s.history ++ es; table = now })
table_meets layout a b x u s es now m l tally foreign = meets_on layout a b x u s es now m l.seated foreign tally l.work.work_is l.table

-- the table's tick stays
pub back_meets : (layout : Layout) (a b : Seats) (x : Tally) (s : ScriptState) → Meets (engine layout a x) s
    → GoesWithTable layout s.history a.delay.table a b → Meets (engine layout b x) s
back_meets layout a b x s m l =
    meets_so layout a b x x s s.history s.table m l.seated m.idle m.tally (ap (λ (l : Lists). l.follows) l.work.work_is) (l.table ∙ m.table)
