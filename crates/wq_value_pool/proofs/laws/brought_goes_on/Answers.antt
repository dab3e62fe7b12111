use mathlib.Core.List.{IsPrefix}
use Rattle.wq_value_worker.proofs.Deals.{along_learnt}
use Rattle.std.proofs.Common.{sym, subst}
use Rattle.wq_value_pool.proofs.laws.brought_goes_on.Goals as goal

pub returns : goal.returns
returns g c =
    let W = g.W.ValueWork in
    record {
      begins = λ old finished whole ends.
          subst (λ ys. IsPrefix old.brought ys) (sym ends.parts_of_last.brought)
          (along_learnt W.given W.may W.takes old ends.last whole ends.along).more;
    }
