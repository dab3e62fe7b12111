-- What an engine and a state of a script's meaning have to do with each other.
use Rattle.std.specs.Prelude.{◌≡◌, ℕ, ◌+◌, ◌^◌, ◌≤◌, List, ◌++◌, length}
use Rattle.wq_words.specs.History.{IsRunning}
use Rattle.wq_text.specs.declared.command.Command.{Command}
use Rattle.wq_meaning.specs.Execution.{follow_of, ended_since}
use Rattle.wq_meaning.specs.Commands.{ScriptState, state_after, after_drain, lines}
use Rattle.wq_script.specs.declared.engine.Engine.{Engine}
use Rattle.wq_script.specs.Seats.{Seated}
use Rattle.wq_script.specs.Asking.{HasFollowLists}
use Rattle.wq_script.specs.Counting.{Tallied}

-- the engine is in this state: its seats have seen the history, and it keeps the table and the lists
pub record Meets (e : Engine) (s : ScriptState) : Type 0 where
  pub seated : Seated e.layout e.seats s.history
  pub idle : ¬ IsRunning s.history
  pub tally : Tallied e.tally e.layout.senders s.history
  pub table : e.seats.delay.table ≡ s.table
  pub follows : e.seats.worker.work.follows.items ≡ s.follows
  pub lists : HasFollowLists e.layout e.seats
  pub short : (k : ℕ) → length (follow_of s.follows k) ≤ 4

-- how much has happened, at least
abbrev pub size : ScriptState → ℕ
size s = length s.history + length s.table.entries

-- there is such a state, in which so much has happened at most
abbrev pub HasStateWithin : ℕ → Engine → Type 0
HasStateWithin most e = (s : ScriptState) × Meets e s × (size s ≤ most)

-- a drain of at most so many executions was made, and these were executed
pub record EngineDrains (limit : ℕ) (e f : Engine) (ran : List ℕ) : Type 0 where
  pub layout : f.layout ≡ e.layout
  pub meets : (s : ScriptState) → Meets e s → Meets f (record s { history = after_drain e.layout s limit })
  pub ran_is : (s : ScriptState) → Meets e s → ran ≡ ended_since s.history (after_drain e.layout s limit)

-- from e to f the command was done, and its lines were written behind what was there before
pub record Does (e f : Engine) (before now : List ℕ) (command : Command) : Type 0 where
  pub layout : f.layout ≡ e.layout
  pub meets : (s : ScriptState) → Meets e s → Meets f (state_after e.layout s command)
  pub lines : (s : ScriptState) → Meets e s → size s ≤ 2 ^ 60 → now ≡ before ++ lines e.layout s (state_after e.layout s command) command
  pub room : (s : ScriptState) → Meets e s → size (state_after e.layout s command) ≤ size s + 2 ^ 36
