use Rattle.std.proofs.Common.{◌≡◌, ap}
use Rattle.std.proofs.Common.{rules, replicate, [], ◌+◌}
use Rattle.wq_check.proofs.FollowingMarks.{looks_opening}
use Rattle.wq_check.proofs.seen_queue.SeenQueue.new.Goals as goal

pub invariant_of-result : goal.invariant_of-result
invariant_of-result c =
    let times : c.in_ok-vec.field-0.items ≡ replicate c.args.layout.items 0 = search rules in
    rw (times, c.in_ok-with_capacity.ensures) (ap (λ n. n + 1) c.number_count.ensures.count, ([], looks_opening c.args.layout))
