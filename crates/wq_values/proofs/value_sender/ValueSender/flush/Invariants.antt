use Rattle.wq_values.proofs.Common.{[], Sees, Learnt}
use Rattle.wq_values.proofs.value_sender.ValueSender.flush.Given as goal

abbrev pub invariant-loop : goal.invariant-loop
invariant-loop g l = record {
  next : (goal.iterator-loop g).can_next l.iterator';
  finite : (goal.iterator-loop g).is_finite l.iterator';
  sees : Sees [] 0 l.initial.self.known l.self.known;
  learnt : Learnt l.initial.self l.self;
}
