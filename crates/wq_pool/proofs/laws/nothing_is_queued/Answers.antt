use Rattle.wq_worker.specs.Step.{stays}
use Rattle.wq_worker.specs.Works.{WorksInStep}
use Rattle.wq_worker.proofs.Silent.{none_along}
use Rattle.wq_pool.proofs.Quiet.{all_quiet}
use Rattle.wq_pool.proofs.laws.nothing_is_queued.Goals as goal

pub returns : goal.returns
returns g c =
    let may = g.W.Work.may in
    record {
      quiet = λ asks.
          all_quiet (λ w. w) (WorksInStep may) (λ b. b) (λ w b. Unit {0})
          (λ a b low idle along. (none_along may stays asks a b low idle along).0);
    }
