-- What a sender asked for, and what it was answered.
use Rattle.wq_script.proofs.Common.{◌≡◌, ℕ, ◌<◌, Bool, true, false, not, ◌&&◌, List, [], ◌∷◌, ◌++◌, Some, None, nat_lt, length, get_or, set, refl, sym, ap, ◌∙◌, subst}
use Rattle.wq_script.proofs.Common.{arith, append_assoc, if◌then◌else◌, append-nil, get_or-set_same, Layout, Event, Hold, Busy, Push, Back, Close, pending}
use Rattle.wq_script.proofs.Common.{closed, first, fresh, owner_seat, wakes, closed_count, Answer, Known, Sees, Answers, IsPushed, TakesAll, WorkerState, Moves}
use Rattle.wq_script.proofs.Common.{shut, HasMetDrain, draining, queue_events, queue_answer, close_events, close_answer, Lists, Seats, Publishes, Seated, Asks}
use Rattle.wq_script.proofs.Common.{Reaches}
use Rattle.wq_words.specs.declared.event.Why.TheVariants as why
use Rattle.wq_words.proofs.Closed.{shut_from_IsShut, shut_from_open, IsShut_from_shut, open_from_shut}
use Rattle.wq_words.proofs.Rest.{wakes_quiet}
use Rattle.wq_words.proofs.ShutOwn.{shut_same}
use Rattle.wq_words.specs.declared.answer.Answer.TheVariants as answer
use Rattle.wq_script.proofs.Seated.{Acts, replacing_sender, sender_acts, worker_acts}
use Rattle.wq_script.proofs.Queueings.{busy_events, push_events, refused_events, drained_events, queue_says, not_closed, not_draining, last_own}
use Rattle.wq_script.proofs.Queueings.{first_held}

-- the answer of a queueing by the tests on which it rests
module _ (h : List Event) (k : ℕ) where
  answer_pending : pending h k ≡ true → queue_answer k h ≡ answer.Pending
  answer_pending set = ap (λ (b : Bool). queue_says h b (closed h) (draining h)) set

  answer_closed : pending h k ≡ false → closed h ≡ true → queue_answer k h ≡ answer.Closed
  answer_closed clear is = λ i. queue_says h (clear i) (is i) (draining h)

  answer_draining : pending h k ≡ false → closed h ≡ false → draining h ≡ true → queue_answer k h ≡ answer.Draining
  answer_draining clear off is = λ i. queue_says h (clear i) (off i) (is i)

  answer_queued : pending h k ≡ false → shut h ≡ false → queue_answer k h ≡ answer.Queued (first h) (wakes h)
  answer_queued clear is_open = λ i. queue_says h (clear i) (not_closed h is_open i) (not_draining h is_open i)

-- what was pushed last was the first on the list, and woke the queue, where it would have before the hold
pushed_first : (h : List Event) (p k : ℕ) (f w : Bool) (z : List Event) → z ≡ h ++ Hold p k ∷ Push p k ∷ [] → IsPushed p k f w z
    → (f ≡ first h) × (w ≡ wakes h)
pushed_first h p k f w z is pushed =
    let same : pushed.before ++ Push p k ∷ pushed.after ≡ (h ++ Hold p k ∷ []) ++ Push p k ∷ [] = sym pushed.is
    ∙ (is ∙ sym (append_assoc h (Hold p k ∷ []) (Push p k ∷ []))) in
    let last = last_own p pushed.before pushed.after (h ++ Hold p k ∷ []) (Push p k) (Push p k) same pushed.last refl in
    (pushed.first_is ∙ (ap first last.1 ∙ first_held h p k), pushed.wakes_is ∙ (ap wakes last.1 ∙ wakes_quiet h (Hold p k) refl refl))

module _ (layout : Layout) (t : Seats) (h : List Event) (p k : ℕ) (x z : Known)
    (acts : (xs : List Event) (n : ℕ) → Sees xs n x z → Acts layout t h x.seen z.seen xs n) where
  -- the answer to a queueing of a seat that acted alone
  pub asked : (a : Answer) → x.number ≡ p → Answers k 1 a x z → (a ≡ queue_answer k h) × Seated layout t (h ++ queue_events p k h)
  asked (answer.Queued f w) number told =
      let xs : List Event = Hold p k ∷ Push p k ∷ [] in
      let sees : Sees xs 0 x z = subst (λ (m : ℕ). Sees (Hold m k ∷ Push m k ∷ []) 0 x z) number told.0 in
      let a : Acts layout t h x.seen z.seen xs 0 = acts xs 0 sees in
      let e = push_events a.seated.wide h p k a.seated.legal in
      let pushed : IsPushed p k f w z.seen = subst (λ (m : ℕ). IsPushed m k f w z.seen) number told.1 in
      let said = pushed_first h p k f w z.seen a.is pushed in (
        ap (λ (b : Bool). answer.Queued b w) said.0 ∙ (ap (answer.Queued (first h)) said.1 ∙ sym (answer_queued h k e.0 e.1)),
        subst (λ (ys : List Event). Seated layout t (h ++ ys)) e.2 a.seated,
      )
  asked answer.Pending number told =
      let xs : List Event = Busy p k ∷ [] in
      let sees : Sees xs 0 x z = subst (λ (m : ℕ). Sees (Busy m k ∷ []) 0 x z) number told in
      let a : Acts layout t h x.seen z.seen xs 0 = acts xs 0 sees in
      let e = busy_events a.seated.wide h p k a.seated.legal in (
        sym (answer_pending h k e.0),
        subst (λ (ys : List Event). Seated layout t (h ++ ys)) e.1 a.seated,
      )
  asked answer.Closed number told =
      let xs : List Event = Hold p k ∷ Back p k why.Closed ∷ [] in
      let sees : Sees xs 0 x z = subst (λ (m : ℕ). Sees (Hold m k ∷ Back m k why.Closed ∷ []) 0 x z) number told in
      let a : Acts layout t h x.seen z.seen xs 0 = acts xs 0 sees in
      let e = refused_events a.seated.wide h p k a.seated.legal in (
        sym (answer_closed h k e.0 e.1),
        subst (λ (ys : List Event). Seated layout t (h ++ ys)) e.2 a.seated,
      )
  asked answer.Draining number told =
      let xs : List Event = Hold p k ∷ Back p k why.Draining ∷ [] in
      let sees : Sees xs 0 x z = subst (λ (m : ℕ). Sees (Hold m k ∷ Back m k why.Draining ∷ []) 0 x z) number told.0 in
      let a : Acts layout t h x.seen z.seen xs 0 = acts xs 0 sees in
      let met : HasMetDrain h (h ++ xs) = subst (λ (v : List Event). HasMetDrain v (h ++ xs)) a.alone
      (subst (λ (w : List Event). HasMetDrain x.seen w) a.is told.1.within) in
      let e = drained_events a.seated.wide h p k a.seated.legal met in (
        sym (answer_draining h k e.0 e.1 e.2),
        subst (λ (ys : List Event). Seated layout t (h ++ ys)) e.3 a.seated,
      )
  asked answer.Contended number told =
      let a = acts (Hold x.number k ∷ Back x.number k why.Contended ∷ []) 1 told in
      absurd (omega (arith, a.none))

-- where a seat of the queue is, its layout is the queue's
pub seat_layout : (layout : Layout) (s : Seats) (h : List Event) (p : ℕ) (x : Known) (g : Seated layout s h) → p < length s.senders.items
    → x ≡ get_or s.senders.items p x → x.layout ≡ g.wide
seat_layout layout s h p x g lt is = ap (λ (v : Known). v.layout) is ∙ (g.senders p x (omega (arith, lt, g.count))).layout_is

-- where a seat was put, the seats have heard what it saw
published_at : (s t : Seats) (p : ℕ) (x z : Known) → p < length s.senders.items
    → ((d : Known) → Publishes (get_or (set s.senders.items p z) p d).seen (replacing_sender s p z) t) → Publishes z.seen (replacing_sender s p z) t
published_at s t p x z lt all = subst (λ (v : Known). Publishes v.seen (replacing_sender s p z) t) (get_or-set_same s.senders.items p z x lt) (all x)

pub sender_asked : (layout : Layout) (s t : Seats) (h : List Event) (p k : ℕ) (a : Answer) (x z : Known) → Seated layout s h
    → p < length s.senders.items → x ≡ get_or s.senders.items p x
    → Answers k 1 a x z → ((d : Known) → Publishes (get_or (set s.senders.items p z) p d).seen (replacing_sender s p z) t) → Asks layout p k a h s t
sender_asked layout s t h p k a x z g lt is told all =
    let published = published_at s t p x z lt all in
    let less : p < layout.senders = omega (arith, lt, g.count) in
    let number : x.number ≡ p = ap (λ (v : Known). v.number) is ∙ (g.senders p x less).number_is in
    let both = asked layout t h p k x z (λ xs n sees. sender_acts layout s t h g p x z xs n less is sees published) a number told in
    record { answer = both.0; seated = both.1; work = published.work; table = published.table }

-- a sender looked at a PENDING bit
pub sender_looked : (layout : Layout) (s t : Seats) (h : List Event) (p : ℕ) (x z : Known) → Seated layout s h → p < length s.senders.items
    → x ≡ get_or s.senders.items p x → Sees [] 0 x z → ((d : Known) → Publishes (get_or (set s.senders.items p z) p d).seen (replacing_sender s p z) t)
    → Reaches layout h s t × (z.seen ≡ h)
sender_looked layout s t h p x z g lt is sees all =
    let published = published_at s t p x z lt all in
    let less : p < layout.senders = omega (arith, lt, g.count) in
    let a = sender_acts layout s t h g p x z [] 0 less is sees published in (
      record { seated = subst (λ (y : List Event). Seated layout t y) (append-nil h) a.seated; work = published.work; table = published.table },
      a.is ∙ append-nil h,
    )

pub worker_closed : (layout : Layout) (s : Seats) (h : List Event) → Seated layout s h → closed s.worker.seen ≡ closed h
worker_closed layout s h g = ap (λ (n : ℕ). nat_lt 0 n) (closed_count h s.worker.seen g.owner.mine)

pub worker_draining : (layout : Layout) (s : Seats) (h : List Event) → Seated layout s h → draining s.worker.seen ≡ draining h
worker_draining layout s h g = λ i. shuts (shut h) refl i && not (worker_closed layout s h g i)
  where
    v : List Event
    v = s.worker.seen

    shuts : (b : Bool) → shut h ≡ b → shut v ≡ shut h
    shuts true is = shut_from_IsShut v (shut_same h v g.owner.mine (IsShut_from_shut h is)) ∙ sym is
    shuts false is = shut_from_open v (λ so. open_from_shut h is (shut_same v h (sym g.owner.mine) so)) ∙ sym is

-- the worker closed the queue
pub worker_closes : (layout : Layout) (s t : Seats) (h : List Event) (w : WorkerState Lists) (taken : ℕ) → Seated layout s h → closed s.worker.seen ≡ false
    → Moves (Close ∷ []) 0 s.worker w → w.work ≡ s.worker.work → w.unqueued ≡ s.worker.unqueued → TakesAll Close taken w.seen
    → Publishes w.seen (record { worker = w; delay = s.delay; senders = s.senders }) t
    → Reaches layout (h ++ close_events h) s t × (Some taken ≡ close_answer h)
worker_closes layout s t h w taken g is_open moves work left takes published =
    let a = (worker_acts layout s t h g w (Close ∷ []) 0 moves published).0 in
    let not_yet : closed h ≡ false = sym (worker_closed layout s h g) ∙ is_open in
    let events : Close ∷ [] ≡ close_events h = sym (ap (λ (b : Bool). if b then [] else Close ∷ []) not_yet) in
    let last = last_own owner_seat takes.before takes.after h Close Close (sym takes.is ∙ a.is) takes.last refl in (
      record {
        seated = subst (λ (ys : List Event). Seated layout t (h ++ ys)) events a.seated;
        work = record {
          work_is = published.work.work_is ∙ work;
          unqueued_is = published.work.unqueued_is ∙ left;
          tries_is = published.work.tries_is ∙ moves.tries;
        };
        table = published.table;
      },
      ap (λ (n : ℕ). Some n) (takes.count_is ∙ ap fresh last.1) ∙ sym (ap (λ (b : Bool). if b then None else Some (fresh h)) not_yet),
    )

pub closed_already : (layout : Layout) (s : Seats) (h : List Event) → Seated layout s h → closed s.worker.seen ≡ true
    → Reaches layout (h ++ close_events h) s s × (None ≡ close_answer h)
closed_already layout s h g is =
    let now : closed h ≡ true = sym (worker_closed layout s h g) ∙ is in
    let none : close_events h ≡ [] = ap (λ (b : Bool). if b then [] else Close ∷ []) now in (
      record {
        seated = subst (λ (ys : List Event). Seated layout s ys) (sym (ap (λ (x : List Event). h ++ x) none ∙ append-nil h)) g;
        work = record { work_is = refl; unqueued_is = refl; tries_is = refl };
        table = refl;
      },
      sym (ap (λ (b : Bool). if b then None else Some (fresh h)) now),
    )
