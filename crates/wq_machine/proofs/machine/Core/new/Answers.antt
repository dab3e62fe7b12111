use Rattle.wq_machine.proofs.Common.{rules, ◌≡◌, replicate, None, number_count, word_count, nothing_seen}
use Rattle.wq_machine.proofs.Stored.{stored_opening}
use Rattle.wq_machine.proofs.machine.Core.new.Goals as goal

pub invariant_of-result : goal.invariant_of-result
invariant_of-result c =
    let words : c.in_ok-vec.field-0.items ≡ replicate (word_count (number_count c.args.layout)) 0 = search rules in
    let seats : c.in_ok-vec-2.field-0.items ≡ replicate c.args.layout.senders nothing_seen = search rules in
    let holders : c.in_ok-vec-3.field-0.items ≡ replicate (number_count c.args.layout) None = search rules in
    rw (words, seats, holders, c.new.ensures.items, c.new-2.ensures.items, c.new-3.ensures.items) (stored_opening c.args.layout)
