use Rattle.wq_ledger.proofs.Common.{◌∙◌}
use Rattle.wq_ledger.proofs.Meeting.{parts_now}
use Rattle.wq_value_worker.proofs.value_book.ValueBook.new.Goals as goal

pub invariant_of-result : goal.invariant_of-result
invariant_of-result g c =
    parts_now c.args.owner.known c.args.sender.now.known c.of-own.result c.legal.ensures.legal c.requires.complete c.requires.both
    (c.of-own.ensures.number ∙ c.number.ensures.seat) (c.of-own.ensures.counts ∙ c.counts.ensures.counted)
