use Rattle.wq_words.proofs.Common.{take, IsLegal}
use Rattle.wq_words.proofs.history.check_history.Given as goal

abbrev pub invariant-loop-place : goal.invariant-loop-place
invariant-loop-place l = IsLegal l.layout (take l.place l.history)
