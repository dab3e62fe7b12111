use Rattle.wq_script.proofs.Common.{◌≡◌, ◌++◌, ◌*◌, ◌^◌, ◌≤◌, drop, fold, string_bytes, ScriptState, state_after, output_from, output_of, Meets, size}
use Rattle.wq_meaning.specs.Order.{final_state}
use Rattle.wq_script.proofs.output.execute_all.Given as goal

-- the output so far and that of the commands that are left are all, for some state that the engine is in, and these commands
-- lead from it to the last state
abbrev pub invariant-loop-command : goal.invariant-loop-command
invariant-loop-command l = record {
  layout : l.engine.layout ≡ l.script.layout;
  told : (s : ScriptState) × Meets l.engine s × (size s ≤ 2 ^ 36 * l.command-index)
      × (string_bytes l.out ++ output_from l.script.layout s (drop l.command-index l.script.commands.items) ≡ output_of l.script.layout l.script.commands.items)
      × (fold (state_after l.script.layout) s (drop l.command-index l.script.commands.items) ≡ final_state l.script.layout l.script.commands.items);
}
