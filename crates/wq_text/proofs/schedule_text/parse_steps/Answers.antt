use Rattle.wq_text.specs.Turn.{schedule_lines}
use Rattle.wq_text.proofs.Outcomes.{one_outcome}
use Rattle.wq_text.proofs.schedule_text.parse_steps.Goals as goal

pub returns-in_err-layout-clause-one : goal.returns-in_err-layout-clause-one
returns-in_err-layout-clause-one c = one_outcome (schedule_lines c.args.text.now) c.args.text.now

pub returns-clause-one : goal.returns-clause-one
returns-clause-one c = one_outcome (schedule_lines c.args.text.now) c.args.text.now
