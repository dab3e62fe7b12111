-- What a destroy gives: the queue was closed where it was not, and executions followed.
use Rattle.wq_worker.proofs.Common.{◌≡◌, ℕ, ◌<◌, List, ◌∙◌, subst, IsClosed, IsLegal, WorkerState, RowBy, IsExecution}
use Rattle.wq_ledger.specs.Book.{BookState}
use Rattle.wq_worker.specs.State.{IsSameWorker}
use Rattle.wq_worker.specs.Rows.{RunsOutBy, Closes}
use Rattle.wq_worker.specs.Destroy.{IsBookOf, DestroysBy, LeavesUnfinishedBy}
use Rattle.wq_calls.proofs.PhaseKept.{closed_still}
use Rattle.wq_worker.proofs.Rows.{worker_on, closes_same, row_phase, ran_complete}

module _ {W : Type 0} (may : W → ℕ → List ℕ → W → Type 0) (gives : W → W → Type 0) (limit left : ℕ) (a m b : WorkerState W) (closed : Closes a m)
    (ran : RunsOutBy may gives limit left m b) (same : IsSameWorker m b) (legal : IsLegal b.layout b.seen) where
  pub leaves_unfinished : IsClosed m.seen → 0 < left → LeavesUnfinishedBy may gives limit a b left
  leaves_unfinished is some = record {
    closed = m;
    closes = closed;
    row = subst (λ (n : ℕ). RowBy may gives IsExecution n m b) (ran.stops some) ran.row;
    same = worker_on a m b (closes_same a m closed) same;
    legal = legal;
    is_closed = closed_still m.seen b.seen (row_phase may gives IsExecution ran.steps m b ran.row) is;
    some_left = some;
    left_is = ran.left_is;
  }

  pub destroys : (logs : W → BookState → Type 0) (work : W) (book : BookState) → IsClosed m.seen → left ≡ 0 → work ≡ b.work → IsBookOf b book → logs work book
      → DestroysBy logs may gives limit a work book
  destroys logs work book is none kept told logged =
      let whole = worker_on a m b (closes_same a m closed) same in record {
        closed = m;
        last = b;
        steps = ran.steps;
        closes = closed;
        within = ran.within;
        row = ran.row;
        same = whole;
        complete = ran_complete may gives limit left m b ran is none;
        work_is = kept;
        queue_is = told.0 ∙ whole.queue_is;
        layout_is = told.1 ∙ whole.layout_is;
        own_is = told.3 ∙ whole.number_is;
        seen_is = told.2;
        counts_are = rw (told.3, told.2) told.4;
        legal = rw (told.1, told.2) legal;
        ran_accepted = logged;
      }
