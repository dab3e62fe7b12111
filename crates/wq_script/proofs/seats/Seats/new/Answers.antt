use Rattle.wq_script.proofs.Common.{[], ◌∷◌, length, ap, arith, length-append, Known, IsWider, length-new_senders, one_less, two_less}
use Rattle.wq_script.proofs.Made.{new_seated, new_free}
use Rattle.wq_script.proofs.seats.Seats.new.Goals as goal

pub unreachable-requires-in_default-pop-2 : goal.unreachable-requires-in_default-pop-2
unreachable-requires-in_default-pop-2 c =
    let b = c.in-Ok-build.ensures.made in let w = c.in-Ok.ensures.ok in let f = c.in_default-pop-2.ensures.cases in let o = c.pop.new.self.ok in
    absurd (omega (
      arith,
      f.0,
      o.0,
      ap length c.in-Some.ensures.items,
      length-append c.pop.new.self.items
          (c.in-Some.delayer ∷ []),
      ap length b.1,
      length-new_senders c.in-Ok-build.owner.queue c.in-Ok.wide c.in-Ok.wide.senders,
      w.2,
    ))

pub new-requires-3 : goal.new-requires-3
new-requires-3 c = λ k. let b = c.in-Ok-build.ensures.made in
    let last = one_less _ c.in-Ok.wide c.in-Ok.wide.senders c.in-Ok-build.senders.items c.pop.new.self.items c.in-Some.delayer b.1 c.in-Some.ensures.items in
    new_free c.in-Some.delayer k (ap (λ (s : Known). s.seen) last.1)

pub new-worker-requires-clause-one : goal.new-worker-requires-clause-one
new-worker-requires-clause-one c = let b = c.in-Ok-build.ensures.made in let w = c.in-Ok.ensures.ok in
    let last = two_less _ c.in-Ok.wide c.args.layout.senders c.in-Ok.wide.senders c.in-Ok-build.senders.items c.pop.new.self.items
    c.pop-2.new.self.items c.in-Some-pop.sender c.in-Some.delayer w.2 b.1 c.in-Some.ensures.items c.in-Some-pop.ensures.items in
    ap (λ (s : Known). s.queue) last.1

pub returns-clause-seated : goal.returns-clause-seated
returns-clause-seated c = let b = c.in-Ok-build.ensures.made in let w = c.in-Ok.ensures.ok in let n = c.new-worker.ensures in
    let last = two_less _ c.in-Ok.wide c.args.layout.senders c.in-Ok.wide.senders c.in-Ok-build.senders.items c.pop.new.self.items
    c.pop-2.new.self.items c.in-Some-pop.sender c.in-Some.delayer w.2 b.1 c.in-Some.ensures.items c.in-Some-pop.ensures.items in
    let wider : IsWider c.args.layout c.in-Ok.wide = record { items = w.0; barriers = w.1; senders = w.2 } in
    new_seated c.args.layout c.in-Ok.wide _ _ _ c.in-Some-pop.sender c.in-Some.delayer wider b.0 last.1 last.2 last.0 n.parts.0
    n.parts.1 n.parts.2 n.parts.3 n.owner n.sender n.legal c.in-Ok-new.ensures.made.0
