-- A destroy that is tried again where something was left.
use Rattle.wq_race.proofs.Common.{◌∙◌, IsRunning, IsLegal, WorkerState, BookState, RunCounter, HasEnded, worker_still, worker_on}
use Rattle.wq_race.proofs.Serving.{HasGoneOn, quiet_still, quiet_on}

pub goes_still : (a : WorkerState RunCounter) → ¬ IsRunning a.seen → IsLegal a.layout a.seen → HasGoneOn a a
goes_still a idle legal = record { same = worker_still a; quiet = quiet_still a.number a.seen; idle = idle; legal = legal }

pub goes_on : (a b c : WorkerState RunCounter) → HasGoneOn a b → HasGoneOn b c → HasGoneOn a c
goes_on a b c x y = record { same = worker_on a b c x.same y.same; quiet = quiet_on a b c.seen x.same x.quiet y.quiet; idle = y.idle; legal = y.legal }

pub ends_on : (a b : WorkerState RunCounter) (work : RunCounter) (book : BookState) → HasGoneOn a b → HasEnded b work book → HasEnded a work book
ends_on a b work book x y = record {
  queue_is = y.queue_is ∙ x.same.queue_is;
  layout_is = y.layout_is ∙ x.same.layout_is;
  number_is = y.number_is ∙ x.same.number_is;
  quiet = quiet_on a b book.seen x.same x.quiet y.quiet;
  legal = y.legal;
  complete = y.complete;
  made = y.made;
  ran_is = y.ran_is;
}
