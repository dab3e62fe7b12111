use Rattle.wq_live.proofs.Common.{◌≡◌, List, [], ◌∷◌, ◌++◌, length, ap, ◌∙◌, arith, length-append}
use Rattle.wq_live.proofs.Common.{ValueStanding, Bare, new_senders}
use Rattle.std.proofs.lemmas.Iterator.Adapters.{YieldsList-from_vec}
use Rattle.std.proofs.lemmas.Iterator.Consumers.{YieldsList-turn, YieldsList-end}
use Rattle.wq_calls.proofs.Built.{chair_at, chair_low, view_new, new_senders-more, length-value_senders}
use Rattle.wq_live.proofs.Made.{sender_of_none}
use Rattle.wq_live.proofs.making.seat_senders.Goals as goal

pub invariant_of-sender : goal.invariant_of-sender
invariant_of-sender c = let h = c.into_iter-chair-iterator.ensures.into_iter_gives in
    let turn = YieldsList-turn
    (YieldsList-from_vec {s = c.into_iter-chair-iterator.result} c.args.seats.items h.0 (h.1 ∙ c.args.seats.ok.0)) c.loop-chair.yielded
    c.loop-chair.chair-iterator c.loop-chair.yielded_by c.next.result c.next.new.self c.in-Some.chair c.in-Some.is c.next.ensures.steps in
    let q = c.requires.seats.0 in
    let is = chair_at q c.args.layout c.args.layout.senders c.args.seats.items
    (length c.loop-chair.yielded) c.loop-chair.number c.in-Some.chair c.requires.seats.2 c.loop-chair.invariant.0 turn in
    sender_of_none q c.args.layout c.loop-chair.number c.in-Some.chair c.new.result is c.new.ensures
    (chair_low q c.args.layout c.args.seats.items (length c.loop-chair.yielded) c.loop-chair.number c.in-Some.chair c.requires.seats.2
    c.loop-chair.invariant.0 turn) c.requires.seats.1

pub overflow_add-number : goal.overflow_add-number
overflow_add-number c = let h = c.into_iter-chair-iterator.ensures.into_iter_gives in
    let turn = YieldsList-turn
    (YieldsList-from_vec {s = c.into_iter-chair-iterator.result} c.args.seats.items h.0 (h.1 ∙ c.args.seats.ok.0)) c.loop-chair.yielded
    c.loop-chair.chair-iterator c.loop-chair.yielded_by c.next.result c.next.new.self c.in-Some.chair c.in-Some.is c.next.ensures.steps in
    let few = c.args.layout.in_limits.2.1 in
    omega (
      arith,
      few,
      turn.0,
      c.loop-chair.invariant.0,
      ap (λ (xs : List (ValueStanding Bare)). length xs) c.requires.seats.2,
      length-value_senders Bare c.requires.seats.0 c.args.layout c.args.layout.senders,
    )

pub push_reserved-requires : goal.push_reserved-requires
push_reserved-requires c = let h = c.into_iter-chair-iterator.ensures.into_iter_gives in let l = c.loop-chair in
    let turn = YieldsList-turn
    (YieldsList-from_vec {s = c.into_iter-chair-iterator.result} c.args.seats.items h.0 (h.1 ∙ c.args.seats.ok.0)) l.yielded l.chair-iterator
    l.yielded_by c.next.result c.next.new.self c.in-Some.chair c.in-Some.is c.next.ensures.steps in
    omega (
      arith,
      turn.0,
      l.invariant.2,
      l.invariant.3,
      ap (λ (xs : List (ValueStanding Bare)). length xs) c.requires.seats.2,
      length-value_senders Bare c.requires.seats.0 c.args.layout c.args.layout.senders,
    )

pub loop-chair-preserved : goal.loop-chair-preserved
loop-chair-preserved c = let h = c.into_iter-chair-iterator.ensures.into_iter_gives in let l = c.loop-chair in
    let turn = YieldsList-turn
    (YieldsList-from_vec {s = c.into_iter-chair-iterator.result} c.args.seats.items h.0 (h.1 ∙ c.args.seats.ok.0)) l.yielded l.chair-iterator
    l.yielded_by c.next.result c.next.new.self c.in-Some.chair c.in-Some.is c.next.ensures.steps in (
      omega (arith, l.invariant.0, length-append l.yielded (c.in-Some.chair ∷ [])),
      λ q is. let view = view_new q c.args.layout l.number c.in-Some.chair c.new.result
          (chair_at q c.args.layout c.args.layout.senders c.args.seats.items (length l.yielded) l.number c.in-Some.chair is l.invariant.0 turn)
          c.new.ensures in
          c.push_reserved.ensures.items ∙ ((λ i. l.invariant.1 q is i ++ view i ∷ []) ∙ new_senders-more q c.args.layout l.number),
      omega (arith, c.push_reserved.ensures.len, l.invariant.2, length-append l.yielded (c.in-Some.chair ∷ [])),
      omega (arith, c.push_reserved.ensures.capacity, l.invariant.3),
    )

pub returns : goal.returns
returns c = let h = c.into_iter-chair-iterator.ensures.into_iter_gives in let l = c.loop-chair in
    let all = YieldsList-end (YieldsList-from_vec {s = c.into_iter-chair-iterator.result} c.args.seats.items h.0 (h.1 ∙ c.args.seats.ok.0)) l.yielded
    l.chair-iterator l.yielded_by c.next.result c.next.new.self c.in-None.is c.next.ensures.steps in
    λ q is. let count : l.number ≡ c.args.layout.senders = omega (
      arith,
      l.invariant.0,
      ap (λ (xs : List (ValueStanding Bare)). length xs) is,
      length-value_senders Bare q c.args.layout c.args.layout.senders,
      all.1,
    ) in
    l.invariant.1 q is ∙ ap (new_senders q c.args.layout) count
