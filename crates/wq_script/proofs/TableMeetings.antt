-- An engine whose delay table was called meets the state that a script goes on to.
use Rattle.wq_script.proofs.Common.{◌≡◌, ℕ, ◌+◌, ◌≤◌, Bool, List, ◌++◌, length, sym, ap, ◌∙◌, subst, Layout, Event, closed, Armed, Modified, DelayTable}
use Rattle.wq_script.proofs.Common.{on_table, table_without, arm_events, arm_table, arm_answer, cancel_events, modify_events, modify_table}
use Rattle.wq_script.proofs.Common.{modify_answer, posted_items, advance_events, advance_table, ScriptState, Seats, Tally, GoesWithTable, ArmsAs, CancelsAs}
use Rattle.wq_script.proofs.Common.{ModifiesAs, IsPosted}
use Rattle.wq_script.proofs.Common.{Tallied, counted_armed, counted_modified, counted_posts, Meets}
use Rattle.wq_script.proofs.Answered.{other_seat, no_owner_seat, arm_counts, cancel_counts, modify_counts, advance_counts}
use Rattle.wq_script.proofs.Tallies.{Foreign}
use Rattle.wq_script.proofs.Meetings.{engine, table_meets}

module _ (layout : Layout) (a b : Seats) (x u : Tally) (s : ScriptState) (m : Meets (engine layout a x) s) where
  -- the worker's number, and that of the delay table's sender
  abbrev pub w : ℕ
  w = layout.senders

  abbrev pub p : ℕ
  p = layout.senders + 1

  -- so many events more, and this table
  abbrev pub MeetsOn : List Event → DelayTable → Type 0
  MeetsOn es now = Meets (engine layout b u) (record s { history = s.history ++ es; table = now })

  -- what a call of the delay table told, where it rests on the table alone
  told_meets : {X : Type 0} (got : X) (answer : DelayTable → X) (es : DelayTable → List Event) (now : DelayTable → DelayTable) (counts : X → Tally)
      → (got ≡ answer a.delay.table) × GoesWithTable layout (s.history ++ es a.delay.table) (now a.delay.table) a b
      → Tallied (counts (answer s.table)) w (s.history ++ es s.table) × Foreign w (es s.table) → u ≡ counts got
      → MeetsOn (es s.table) (now s.table) × (got ≡ answer s.table)
  told_meets got answer es now counts told n is =
      let same : got ≡ answer s.table = told.0 ∙ ap answer m.table in
      let P : Tally → Type 0 = λ v. Tallied v w (s.history ++ es s.table) in
      let Q : DelayTable → Type 0 = λ t. GoesWithTable layout (s.history ++ es t) (now t) a b in
      (table_meets layout a b x u s (es s.table) (now s.table) m (subst Q m.table told.1) (subst P (sym (is ∙ ap counts same)) n.0) n.1, same)

  module _ (k delay : ℕ) where
    pub armed_meets : (got : Armed) → ArmsAs k delay got a b → u ≡ counted_armed got x
        → MeetsOn (arm_events p k delay s.history s.table) (arm_table k delay s.history s.table) × (got ≡ arm_answer k delay s.history s.table)
    armed_meets got arms =
        told_meets got (arm_answer k delay s.history) (arm_events p k delay s.history) (arm_table k delay s.history) (λ y. counted_armed y x)
        (arms layout s.history m.seated) (arm_counts w p k s.history x (other_seat layout) (no_owner_seat layout) m.tally delay s.table)

    pub modified_meets : (got : Modified) (on : Bool) → on ≡ on_table k a.delay.table.entries → ModifiesAs k delay got a b
        → u ≡ counted_modified delay on got x
        → MeetsOn (modify_events p k delay s.history s.table) (modify_table k delay s.history s.table) × (got ≡ modify_answer k delay s.history s.table)
    modified_meets got on at modifies is =
        let then : Bool = on_table k s.table.entries in
        let same : on ≡ then = at ∙ ap (λ (t : DelayTable). on_table k t.entries) m.table in
        told_meets got (modify_answer k delay s.history) (modify_events p k delay s.history) (modify_table k delay s.history)
        (λ y. counted_modified delay then y x) (modifies layout s.history m.seated)
        (modify_counts w p k s.history x (other_seat layout) (no_owner_seat layout) m.tally delay s.table)
        (is ∙ ap (λ (o : Bool). counted_modified delay o got x) same)

  pub cancelled_meets : (k : ℕ) (was_on_table : Bool) → CancelsAs k was_on_table a b → u ≡ x
      → MeetsOn (cancel_events p k s.table) (table_without k s.table) × (was_on_table ≡ on_table k s.table.entries)
  cancelled_meets k was_on_table cancels =
      told_meets was_on_table (λ t. on_table k t.entries) (cancel_events p k) (table_without k) (λ _. x) (cancels layout s.history m.seated)
      (cancel_counts w p k s.history x (other_seat layout) (no_owner_seat layout) m.tally s.table)

  pub posted_meets : (tick : ℕ) (ks : List ℕ) → IsPosted tick ks a b → u ≡ counted_posts (closed s.history) (length ks) x
      → MeetsOn (advance_events p tick s.history s.table) (advance_table tick s.history s.table) × (ks ≡ posted_items tick s.history s.table)
      × (s.table.tick ≤ tick)
  posted_meets tick ks posted counts =
      let told = posted layout s.history m.seated in
      let R : DelayTable → Type 0 = λ t. t.tick ≤ tick in
      let meets = told_meets ks (posted_items tick s.history) (advance_events p tick s.history) (advance_table tick s.history)
      (λ js. counted_posts (closed s.history) (length js) x)
      (told.1, told.2) (advance_counts w p tick s.history x s.table (other_seat layout) (no_owner_seat layout) m.tally) counts in
      (meets.0, meets.1, subst R m.table told.0)
