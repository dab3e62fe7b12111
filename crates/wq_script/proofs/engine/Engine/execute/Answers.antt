use Rattle.wq_script.proofs.Common.{◌≡◌, ℕ, List, sym, subst, string_bytes, Command, Does}
use Rattle.std.specs.Prelude.{Result, OnOk}
use Rattle.wq_script.specs.declared.engine.Engine.{Engine}
use Rattle.wq_script.proofs.engine.Engine.execute.Goals as goal

-- what the call of a command did, said of the command
as_said : {A E : Type 0} (result : Result A E) (was new : Engine) (before after : List ℕ) (made command : Command) → command ≡ made
    → OnOk result (Does was new before after made) → OnOk result (Does was new before after command)
as_said result was new before after made command is = subst (λ k. OnOk result (Does was new before after k)) (sym is)

pub returns-in-Follow : goal.returns-in-Follow
returns-in-Follow c =
    let bytes : List ℕ = string_bytes c.args.out.now in
    let P : Command → Type 0 = λ k. Does c.args.self.now c.follow.new.self bytes bytes k in
    subst P (sym c.in-Follow.is) (c.follow.ensures bytes)

pub returns-in-Run : goal.returns-in-Run
returns-in-Run c = as_said c.run.result _ _ _ _ _ _ c.in-Run.is c.run.ensures

pub returns-in-Close : goal.returns-in-Close
returns-in-Close c = as_said c.close.result _ _ _ _ _ _ c.in-Close.is c.close.ensures

pub returns-in-Report : goal.returns-in-Report
returns-in-Report c = as_said c.report.result _ _ _ _ _ _ c.in-Report.is c.report.ensures

pub returns-in-Flush : goal.returns-in-Flush
returns-in-Flush c = as_said c.flush.result _ _ _ _ _ _ c.in-Flush.is c.flush.ensures

pub returns-in-Done : goal.returns-in-Done
returns-in-Done c = as_said c.done.result _ _ _ _ _ _ c.in-Done.is c.done.ensures

pub returns-in-Stop : goal.returns-in-Stop
returns-in-Stop c = as_said c.stop.result _ _ _ _ _ _ c.in-Stop.is c.stop.ensures

pub returns-in-Drain : goal.returns-in-Drain
returns-in-Drain c = as_said c.drain.result _ _ _ _ _ _ c.in-Drain.is c.drain.ensures

pub returns-in-DrainAndResume : goal.returns-in-DrainAndResume
returns-in-DrainAndResume c = as_said c.drain_and_resume.result _ _ _ _ _ _ c.in-DrainAndResume.is c.drain_and_resume.ensures

pub returns-in-Check : goal.returns-in-Check
returns-in-Check c = as_said c.check.result _ _ _ _ _ _ c.in-Check.is c.check.ensures

pub returns-in-Arm : goal.returns-in-Arm
returns-in-Arm c = as_said c.arm.result _ _ _ _ _ _ c.in-Arm.is c.arm.ensures

pub returns-in-Cancel : goal.returns-in-Cancel
returns-in-Cancel c = as_said c.cancel.result _ _ _ _ _ _ c.in-Cancel.is c.cancel.ensures

pub returns-in-Modify : goal.returns-in-Modify
returns-in-Modify c = as_said c.modify.result _ _ _ _ _ _ c.in-Modify.is c.modify.ensures

pub returns-in-Advance : goal.returns-in-Advance
returns-in-Advance c = as_said c.advance.result _ _ _ _ _ _ c.in-Advance.is c.advance.ensures
