use Rattle.std.proofs.Common.{◌≡◌, ℕ, ◌+◌, List, [], sym, ap, ◌∙◌, arith}
use Rattle.std.specs.Prelude.{sum, sum_by, Option}
use Rattle.std.specs.List.{range_with_len}
use Rattle.wq_words.specs.declared.layout.Layout.{Layout}
use Rattle.wq_value_worker.specs.History.{accepted}
use Rattle.wq_value_worker.specs.Returned.{pairs_of}
use Rattle.wq_value_worker.specs.Seen.{own, owner_seat, over_seats}
use Rattle.wq_value_worker.specs.Valued.{values_among}
use Rattle.example_values.specs.Sums.{sum_of, own_sum}
use Rattle.example_values.proofs.summed.run.Goals as goal

pub balance-requires-clause-one : goal.balance-requires-clause-one
balance-requires-clause-one c = c.meet-other.ensures.kept _ c.meet-one.ensures.made

-- the senders are numbers 0 and 1; the worker's, number 2, and the owner queued nothing
pub returns-clause-queued : goal.returns-clause-queued
returns-clause-queued c =
    let one = c.meet-one.ensures in let other = c.meet-other.ensures in let executed = c.in_ok-sum.ensures in
    let h = c.meet-other.new.self.book.seen in let b = c.meet-other.new.self.brought in let layout = c.meet-other.new.self.book.layout in
    let many = c.legal.ensures.whole.as_many in
    let summed : List (Option ℕ) → ℕ = λ ys. sum (values_among ys) in
    let senders : layout.senders ≡ 3 = ap (λ (l : Layout). l.senders) (other.same.1 ∙ (one.same.1 ∙ executed.layout)) ∙ c.requires.senders in
    let each : over_seats layout (λ s. own_sum s h b) ≡ own_sum owner_seat h b + (((0 + own_sum 0 h b) + own_sum 1 h b) + own_sum 2 h b) =
    ap (λ n. own_sum owner_seat h b + sum_by (λ s. own_sum s h b) (range_with_len 0 n)) senders in
    let none_of : (s : ℕ) → accepted (own s h) ≡ [] → own_sum s h b ≡ 0 = λ s none. ap summed (c.own_values_match.ensures.none s h b none) in
    let of_owner = none_of owner_seat (other.last.of_each owner_seat ∙ (one.last.of_each owner_seat ∙ (executed.chained ∙ c.requires.chained))) in
    let of_worker = none_of 2 (other.last.of_each 2 ∙ (one.last.of_each 2 ∙ executed.of_worker)) in
    let first = c.queue_two.new.sender.known.number in let is_first : first ≡ 0 = c.queue_two.ensures.same.number_is ∙ c.requires.numbers.0 in
    let second = c.queue_two-2.new.sender.known.number in let is_second : second ≡ 1 = c.queue_two-2.ensures.same.number_is ∙ c.requires.numbers.1 in
    let met_first : own_sum first h b ≡ own_sum first c.queue_two.new.sender.known.seen c.queue_two.new.sender.brought =
    ap summed (other.of_each first) ∙ ((λ i. own_sum first (sym one.both i) (sym one.both_brought i)) ∙ ap summed one.own_values) in
    let met_second : own_sum second h b ≡ own_sum second c.queue_two-2.new.sender.known.seen c.queue_two-2.new.sender.brought =
    (λ i. own_sum second (sym other.both i) (sym other.both_brought i)) ∙ ap summed other.own_values in
    let of_first : own_sum 0 h b ≡ c.queue_two.result =
    (λ i. own_sum (sym is_first i) h b) ∙ (met_first ∙
    ((λ i. own_sum (c.queue_two.ensures.same.number_is i) c.queue_two.new.sender.known.seen c.queue_two.new.sender.brought) ∙
    (c.queue_two.ensures.sum ∙ omega (arith, c.requires.unsent.0)))) in
    let of_second : own_sum 1 h b ≡ c.queue_two-2.result =
    (λ i. own_sum (sym is_second i) h b) ∙ (met_second ∙
    ((λ i. own_sum (c.queue_two-2.ensures.same.number_is i) c.queue_two-2.new.sender.known.seen c.queue_two-2.new.sender.brought) ∙
    (c.queue_two-2.ensures.sum ∙ omega (arith, c.requires.unsent.1)))) in
    let ran : c.in_ok-sum.sum ≡ sum_of (pairs_of (accepted h) b) =
    executed.sum ∙ (λ i. sum_of (pairs_of ((sym one.last.accepted_is ∙ sym other.last.accepted_is) i) ((sym one.brought ∙ sym other.brought) i))) in
    omega (
      arith,
      ran,
      c.pairs_have_values.ensures.sums (λ v. v) (accepted h) b many,
      c.values_add_up.ensures.sums (λ v. v) layout h b c.legal.ensures.legal many,
      each,
      of_owner,
      of_worker,
      of_first,
      of_second,
    )
