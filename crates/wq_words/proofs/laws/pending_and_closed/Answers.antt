use Rattle.wq_words.proofs.Common.{arith, nat_tests}
use Rattle.wq_words.proofs.laws.pending_and_closed.Goals as goal

pub returns : goal.returns
returns c = record {
  pending = λ h k. (λ yes. grind (arith, nat_tests), λ lt. grind (arith, nat_tests));
  closed = λ h. (λ yes. grind (arith, nat_tests), λ lt. grind (arith, nat_tests));
  shut = λ h. (λ yes. grind (arith, nat_tests), λ lt. grind (arith, nat_tests));
}
