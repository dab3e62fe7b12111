use Rattle.wq_commands.proofs.Judging.{judges_at_end, fails_unsaid}
use Rattle.wq_commands.proofs.check.check_main.Goals as goal

pub returns-clause-judged : goal.returns-clause-judged
returns-clause-judged g c = λ done. judges_at_end _ _ _ _ _ _ c.read_finding-finding.ensures.found (c.write_finding.ensures.said done)

pub returns-clause-failed : goal.returns-clause-failed
returns-clause-failed g c = λ not_0 not_4. let e = c.write_finding.ensures.failed not_0 not_4 in
    (e.0, e.1, e.3, fails_unsaid _ _ _ _ e.0 c.read_finding-finding.ensures.found c.read_finding-finding.ensures.none e.2)
