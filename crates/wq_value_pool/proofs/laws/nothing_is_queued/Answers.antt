use Rattle.std.proofs.Common.{◌≡◌, sym, ap, ◌∙◌}
use Rattle.wq_worker.proofs.Silent.{none_along}
use Rattle.wq_value_worker.specs.Deals.{DealsInStep}
use Rattle.wq_value_worker.specs.Returned.{MayLeave, GivesBack, numbers_in}
use Rattle.wq_value_worker.proofs.Deals.{along_works}
use Rattle.wq_pool.proofs.Quiet.{all_quiet}
use Rattle.wq_value_pool.proofs.laws.nothing_is_queued.Goals as goal

pub returns : goal.returns
returns g c =
    let W = g.W.ValueWork in
    record {
      quiet = λ asks.
          all_quiet (λ w. w.worker) (DealsInStep W.given W.may W.takes) (λ b. b.book) (λ w b. b.brought ≡ w.brought)
          (λ a b low idle along.
          (none_along (MayLeave W.may W.takes) (GivesBack W.takes)
          (λ w k f v m. sym m.numbers ∙ ap (λ ps. numbers_in ps) (asks w k m.value m.pairs m.ran m.runs)) a.worker b.worker low idle
          (along_works W.given W.may W.takes a b along)).0);
    }
