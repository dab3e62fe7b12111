use Rattle.std.specs.Prelude.{IfOk}
use Rattle.wq_text.proofs.Common.{sym, ◌∙◌, subst, Lines, Spells, IsRefusal}
use Rattle.wq_text.specs.declared.command.Command.{Command}
use Rattle.wq_text.specs.Fault.{IfRefused}
use Rattle.wq_text.specs.Keyword.{script_grammar, script_grammar_2}
use Rattle.wq_text.proofs.Versions.{in_two}
use Rattle.wq_text.proofs.script_text.read_script.Goals as goal

pub returns-then-is_of-clause-spells : goal.returns-then-is_of-clause-spells
returns-then-is_of-clause-spells c =
    let same = in_two script_grammar script_grammar_2 c.args.text.now (sym c.is_of.ensures ∙ c.if-is_of.true) in
    subst (λ (g : Lines Command). IfOk c.read.result (λ x. Spells g c.args.text.now x.0 x.1.items)) same c.read.ensures.spells

pub returns-then-is_of-clause-refused : goal.returns-then-is_of-clause-refused
returns-then-is_of-clause-refused c =
    let same = in_two script_grammar script_grammar_2 c.args.text.now (sym c.is_of.ensures ∙ c.if-is_of.true) in
    subst (λ (g : Lines Command). IfRefused c.read.result (IsRefusal g c.args.text.now)) same c.read.ensures.refused
