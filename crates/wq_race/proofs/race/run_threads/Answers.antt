use Rattle.wq_race.proofs.Common.{◌*◌, ◌^◌, subst, WorkerState, Known, RunCounter, HasServed, HasStopped, IsStopAnswer}
use Rattle.wq_race.proofs.Running.{has_raced}
use Rattle.wq_race.proofs.race.run_threads.Goals as goal

pub returns-in-Ok-clause-raced : goal.returns-in-Ok-clause-raced
returns-in-Ok-clause-raced g c =
    let given = rw c.in-Some.is at c.queue_all-serving.ensures.serving in
    let served = subst (λ (w : WorkerState RunCounter). HasServed w c.join-worker.result) given c.join-worker.ensures in
    let stopped = subst (λ (s : Known). HasStopped (2 * 2 ^ 32) s c.stop.new.program) c.queue_all-serving.ensures.program c.stop.ensures.few in
    has_raced c.args.plan c.args.team _ c.requires served (rw c.in-Ok.is at c.queue_all-serving.ensures.queued) stopped

pub returns-in-Ok-clause-team : goal.returns-in-Ok-clause-team
returns-in-Ok-clause-team g c =
    let given = rw c.in-Some.is at c.queue_all-serving.ensures.serving in
    let was = c.queue_all-serving.ensures.program in
    record {
      worker = subst (λ (w : WorkerState RunCounter). HasServed w c.join-worker.result) given c.join-worker.ensures;
      senders = rw c.in-Ok.is at c.queue_all-serving.ensures.queued;
      program = record {
        stopped = subst (λ (s : Known). HasStopped (2 * 2 ^ 32) s c.stop.new.program) was c.stop.ensures.few;
        answer = c.stop.result;
        answered = subst (λ (s : Known). IsStopAnswer c.stop.result s c.stop.new.program) was c.stop.ensures.answer;
        settled = c.stop.ensures.settled;
      };
    }
