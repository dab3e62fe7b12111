use Rattle.wq_race.proofs.Common.{ℕ, ◌≡◌, ◌-◌, ◌*◌, sym, ap, subst, arith, range_with_len, items_at, HasQueued}
use Rattle.wq_race.proofs.Queueing.{queued_none, queued_next}
use Rattle.wq_race.proofs.race.queue_own.Goals as goal

pub loop-item-init : goal.loop-item-init
loop-item-init g c =
    let first = c.number.result * c.args.own in let none : first - first ≡ 0 = omega arith in
    subst (λ (n : ℕ). HasQueued (range_with_len first n) c.args.sender c.args.sender) (sym none) (queued_none c.args.sender)

pub queue_item-requires : goal.queue_item-requires
queue_item-requires g c =
    let q = c.loop-item.invariant in
    let first : c.number.result * c.args.own ≡ c.args.sender.number * c.args.own = ap (λ n. n * c.args.own) c.number.ensures.seat in
    let size = ap (λ l. l.items) q.same.layout_is in
    omega (arith, c.requires, c.loop-item-test.true, first, size)

pub loop-item-preserved : goal.loop-item-preserved
loop-item-preserved g c = queued_next (c.number.result * c.args.own) c.loop-item.item c.args.sender c.loop-item.sender
    c.queue_item.new.sender c.loop-item.auto.item c.loop-item.invariant c.queue_item.ensures.queued

pub returns : goal.returns
returns g c =
    let own = c.args.own in let first = c.number.result * own in
    let all : c.loop-item.item - first ≡ own = omega (arith, c.loop-item-test.false, c.loop-item.auto.item, c.loop-item.auto.item-end) in
    subst (λ (n : ℕ). HasQueued (items_at n own) c.args.sender c.loop-item.sender) c.number.ensures.seat
    (subst (λ (n : ℕ). HasQueued (range_with_len first n) c.args.sender c.loop-item.sender) all c.loop-item.invariant)
