use Rattle.wq_check.proofs.Common.{◌≡◌, replicate, [], number_count, Idle}
use Rattle.std.proofs.Common.{rules}
use Rattle.wq_check.proofs.Following.{told_opening}
use Rattle.wq_check.proofs.queue.Queue.new.Goals as goal

pub invariant_of-result : goal.invariant_of-result
invariant_of-result c =
    let places : c.in_ok-vec.field-0.items ≡ replicate (number_count c.args.layout) Idle = search rules in
    rw (places, c.in_ok-with_capacity.ensures) (c.number_count-count.ensures.count, ([], told_opening c.args.layout))
