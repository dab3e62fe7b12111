-- The limits of a text.
use Rattle.std.specs.Prelude.{ℕ}

-- the most bytes of a script or a schedule, and so the most commands of a script
abbrev pub most_bytes : ℕ
most_bytes = 1048576

-- the most executions that a run or a drain asks for
abbrev pub most_executions : ℕ
most_executions = 65536

-- the most senders of a script, whose queue has two more: the worker's and the delay table's
abbrev pub most_script_senders : ℕ
most_script_senders = 62
