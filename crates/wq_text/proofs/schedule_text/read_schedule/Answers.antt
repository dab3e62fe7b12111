use Rattle.std.specs.Prelude.{IfOk}
use Rattle.wq_text.proofs.Common.{sym, ◌∙◌, subst, Lines, Spells, IsRefusal, Turn}
use Rattle.wq_text.specs.Fault.{IfRefused}
use Rattle.wq_text.specs.Turn.{schedule_grammar, schedule_grammar_2}
use Rattle.wq_text.proofs.Versions.{in_one, in_two}
use Rattle.wq_text.proofs.schedule_text.read_schedule.Goals as goal

pub returns-then-is_of-clause-spells : goal.returns-then-is_of-clause-spells
returns-then-is_of-clause-spells c =
    let same = in_two schedule_grammar schedule_grammar_2 c.args.text.now (sym c.is_of.ensures ∙ c.if-is_of.true) in
    subst (λ (g : Lines Turn). IfOk c.read.result (λ x. Spells g c.args.text.now x.0 x.1.items)) same c.read.ensures.spells

pub returns-then-is_of-clause-refused : goal.returns-then-is_of-clause-refused
returns-then-is_of-clause-refused c =
    let same = in_two schedule_grammar schedule_grammar_2 c.args.text.now (sym c.is_of.ensures ∙ c.if-is_of.true) in
    subst (λ (g : Lines Turn). IfRefused c.read.result (IsRefusal g c.args.text.now)) same c.read.ensures.refused

pub returns-else-is_of-clause-spells : goal.returns-else-is_of-clause-spells
returns-else-is_of-clause-spells c =
    let same = in_one schedule_grammar schedule_grammar_2 c.args.text.now (sym c.is_of.ensures ∙ c.if-is_of.false) in
    subst (λ (g : Lines Turn). IfOk c.read-else-is_of.result (λ x. Spells g c.args.text.now x.0 x.1.items)) same c.read-else-is_of.ensures.spells

pub returns-else-is_of-clause-refused : goal.returns-else-is_of-clause-refused
returns-else-is_of-clause-refused c =
    let same = in_one schedule_grammar schedule_grammar_2 c.args.text.now (sym c.is_of.ensures ∙ c.if-is_of.false) in
    subst (λ (g : Lines Turn). IfRefused c.read-else-is_of.result (IsRefusal g c.args.text.now)) same c.read-else-is_of.ensures.refused
