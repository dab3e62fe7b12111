use Rattle.std.proofs.Common.{subst}
use Rattle.wq_words.specs.declared.layout.Layout.{Layout}
use Rattle.wq_live.specs.Answers.{HasFlushed}
use Rattle.wq_pool.specs.Numbers.{barrier_number}
use Rattle.example_pool.proofs.flushing.flush.Goals as goal

pub returns-in-Queued-clause-ended : goal.returns-in-Queued-clause-ended
returns-in-Queued-clause-ended g c = λ has.
    c.flushed_in_halves.ensures.ended _ 1 _ _ _ _ _ c.in-Queued.ensures.answer (c.seen_goes_on.ensures.begins _ _ _ _ c.has_run.ensures.seen)
    (subst (λ (l : Layout). HasFlushed (barrier_number l c.args.barrier) c.has_run.new.sender.seen) c.in-Queued.ensures.same.layout_is
    (c.has_run.ensures.flushed has))
