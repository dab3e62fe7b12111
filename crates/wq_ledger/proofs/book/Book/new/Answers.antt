use Rattle.wq_ledger.proofs.Common.{◌∙◌}
use Rattle.wq_ledger.proofs.Meeting.{parts_now}
use Rattle.wq_ledger.proofs.book.Book.new.Goals as goal

pub invariant_of-result : goal.invariant_of-result
invariant_of-result c =
    parts_now c.args.owner c.args.sender.now c.of-own.result c.legal.ensures.legal c.requires.complete c.requires.both
    (c.of-own.ensures.number ∙ c.number.ensures.seat) (c.of-own.ensures.counts ∙ c.counts.ensures.counted)
