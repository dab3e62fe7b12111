use Rattle.wq_delay.proofs.Common.{arith}
use Rattle.wq_delay.proofs.Serving.{few_entries}
use Rattle.wq_delay.proofs.timetable.Timetable.len.Goals as goal

pub returns-clause-few : goal.returns-clause-few
returns-clause-few c =
    let t = c.self.invariant.0 in let few = few_entries c.self.inside.places.items t.apart in
    omega (arith, few, t.few, t.count_is)
