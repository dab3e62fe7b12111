use Rattle.wq_words.specs.History.{IsRunning}
use Rattle.bench_queue.proofs.values.owner.execute_some.Given as goal

abbrev pub invariant-loop-count : goal.invariant-loop-count
invariant-loop-count g l = ¬ IsRunning l.owner.known.seen
