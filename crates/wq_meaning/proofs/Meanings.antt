-- What a command means, by the tests on which it rests.
use Rattle.wq_meaning.proofs.Common.{◌≡◌, ℕ, true, false, List, ◌++◌, nat_lt, if◌then◌else◌, None, sym, ap, ◌∙◌, subst, codes, Layout, closed, Command}
use Rattle.wq_meaning.proofs.Common.{ended_since, posted_items, advance_events, advance_table, row_text, advance_word, left_text, ScriptState, lines}
use Rattle.wq_meaning.proofs.Common.{state_after, after_row, delayer, left_in}
use Rattle.wq_text.specs.declared.command.Command.TheVariants as command
use Rattle.wq_meaning.specs.Report.{line}

-- the lines of a command, where the state after it is t
pub wrote : (layout : Layout) (s t : ScriptState) (c : Command) (before now text : List ℕ) → state_after layout s c ≡ t
    → lines layout s t c ≡ text → now ≡ before ++ text → now ≡ before ++ lines layout s (state_after layout s c) c
wrote layout s t c before now text leads reads written =
    let P : ScriptState → Type 0 = λ x. now ≡ before ++ lines layout s x c in
    subst P (sym leads) (written ∙ ap (λ x. before ++ x) (sym reads))

abbrev pub drained : Layout → ScriptState → ℕ → ScriptState
drained layout s limit = record s { history = after_row layout s limit None }

abbrev pub advanced : Layout → ScriptState → ℕ → ScriptState
advanced layout s tick = record s {
  history = s.history ++ advance_events (delayer layout) tick s.history s.table;
  table = advance_table tick s.history s.table;
}

module _ (layout : Layout) (s : ScriptState) where
  pub drain_open : (limit : ℕ) → closed s.history ≡ false → (state_after layout s (command.Drain limit) ≡ s)
      × (lines layout s s (command.Drain limit) ≡ line (codes "not closed"))
  drain_open limit is_open = (
    ap (λ b. if b then drained layout s limit else s) is_open,
    ap (λ b. if b then row_text layout (codes "ran") (ended_since s.history s.history)
        ++ line (left_text (left_in s.history)) else line (codes "not closed")) is_open,
  )

  pub drain_closed : (limit : ℕ) → closed s.history ≡ true → (state_after layout s (command.Drain limit) ≡ drained layout s limit)
      × (lines layout s (drained layout s limit) (command.Drain limit) ≡ row_text layout (codes "ran")
      (ended_since s.history (after_row layout s limit None)) ++ line (left_text (left_in (after_row layout s limit None))))
  drain_closed limit is_closed = (
    ap (λ b. if b then drained layout s limit else s) is_closed,
    ap (λ b. if b then row_text layout (codes "ran") (ended_since s.history (after_row layout s limit None))
        ++ line (left_text (left_in (after_row layout s limit None))) else line (codes "not closed")) is_closed,
  )

  pub advance_back : (tick : ℕ) → nat_lt tick s.table.tick ≡ true → (state_after layout s (command.Advance tick) ≡ s)
      × (lines layout s s (command.Advance tick) ≡ line (codes "false backwards"))
  advance_back tick back = (
    ap (λ b. if b then s else advanced layout s tick) back,
    ap (λ b. if b then line (codes "false backwards") else row_text layout (advance_word (closed s.history) (posted_items tick s.history s.table))
        (posted_items tick s.history s.table)) back,
  )

  pub advance_on : (tick : ℕ) → nat_lt tick s.table.tick ≡ false → (state_after layout s (command.Advance tick) ≡ advanced layout s tick)
      × (lines layout s (advanced layout s tick) (command.Advance tick)
      ≡ row_text layout (advance_word (closed s.history) (posted_items tick s.history s.table)) (posted_items tick s.history s.table))
  advance_on tick on = (
    ap (λ b. if b then s else advanced layout s tick) on,
    ap (λ b. if b then line (codes "false backwards") else row_text layout (advance_word (closed s.history) (posted_items tick s.history s.table))
        (posted_items tick s.history s.table)) on,
  )
