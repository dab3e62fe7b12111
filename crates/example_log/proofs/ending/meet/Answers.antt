use Rattle.std.proofs.Common.{ℕ, ◌∙◌, sym, ap, ◌++◌, append_assoc}
use Rattle.wq_words.specs.History.{accepted}
use Rattle.wq_words.specs.Seen.{own, owner_seat}
use Rattle.wq_values.specs.OwnBrought.{own_brought}
use Rattle.example_log.proofs.ending.meet.Goals as goal

pub returns-clause-of_first : goal.returns-clause-of_first
returns-clause-of_first c = let s = c.args.first in let m = c.meet-2.ensures in
    c.meet-3.ensures.of_each s.known.number ∙ ((λ i. own_brought s.known.number (sym m.both i) (sym m.both_brought i)) ∙
    m.own_values)

pub returns-clause-of_second : goal.returns-clause-of_second
returns-clause-of_second c = let s = c.args.second in let m = c.meet-3.ensures in
    (λ i. own_brought s.known.number (sym m.both i) (sym m.both_brought i)) ∙ m.own_values

pub returns-clause-of_third : goal.returns-clause-of_third
returns-clause-of_third c = let n = c.args.third.known.number in let m = c.meet.ensures in
    c.meet-3.ensures.last.of_each n ∙ (c.meet-2.ensures.last.of_each n ∙ ((λ i. accepted (own n (sym m.both i)))
    ∙ ap accepted m.own))

pub returns-clause-of_worker : goal.returns-clause-of_worker
returns-clause-of_worker c was =
    let still = λ (s : ℕ). c.meet-3.ensures.last.of_each s ∙ (c.meet-2.ensures.last.of_each s ∙ c.meet.ensures.last.of_each s) in
    (still 3 ∙ was.0, still owner_seat ∙ was.1)

pub returns-clause-seen_by_first : goal.returns-clause-seen_by_first
returns-clause-seen_by_first c = let m = c.meet-2.ensures in let n = c.meet-3.ensures in let more = m.sender.grows.new in let behind = n.owner.new in
    (more ++ behind, sym (n.owner.is ∙ (ap (λ es. es ++ behind) (sym m.both ∙ m.sender.grows.is) ∙ append_assoc c.args.first.known.seen more behind)))

pub returns-clause-seen_by_second : goal.returns-clause-seen_by_second
returns-clause-seen_by_second c = let n = c.meet-3.ensures in (n.sender.grows.new, sym (sym n.both ∙ n.sender.grows.is))
