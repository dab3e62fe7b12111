use Rattle.std.proofs.lemmas.Iterator.Adapters.{YieldsList-from_vec}
use Rattle.std.proofs.lemmas.Iterator.Consumers.{YieldsList-turn, YieldsList-end}
use Rattle.wq_pool.proofs.Common.{◌≡◌, List, [], ◌∷◌, ◌++◌, map, Some, sym, ap, ◌∙◌, subst, arith, length-append, map-id}
use Rattle.wq_pool.proofs.Hands.{filled_next}
use Rattle.wq_pool.proofs.slots.filled.Goals as goal

pub push_reserved-requires : goal.push_reserved-requires
push_reserved-requires g c =
    let i = c.into_iter-queue-iterator.ensures.into_iter_gives in let l = c.loop-queue in
    let turn = YieldsList-turn (YieldsList-from_vec {s = c.into_iter-queue-iterator.result} c.args.queues.items i.0 (i.1 ∙ c.args.queues.ok.0))
    l.yielded l.queue-iterator l.yielded_by c.next.result c.next.new.self c.in-Some.queue c.in-Some.is c.next.ensures.steps in
    omega (arith, turn.0, l.invariant.3, l.invariant.4, c.args.queues.ok.0)

pub loop-queue-preserved : goal.loop-queue-preserved
loop-queue-preserved g c =
    let l = c.loop-queue in let i = l.invariant in let queue = c.in-Some.queue in (
      tt,
      tt,
      filled_next l.yielded queue l.slots.items c.push_reserved.new.self.items i.2
          (subst (λ (q : _). c.push_reserved.new.self.items ≡ l.slots.items ++ Some q ∷ []) c.anew.ensures.same c.push_reserved.ensures.items),
      omega (arith, c.push_reserved.ensures.len, i.3, length-append l.yielded (queue ∷ [])),
      omega (arith, c.push_reserved.ensures.capacity, i.4),
    )

pub returns : goal.returns
returns g c =
    let i = c.into_iter-queue-iterator.ensures.into_iter_gives in let l = c.loop-queue in
    let all = YieldsList-end (YieldsList-from_vec {s = c.into_iter-queue-iterator.result} c.args.queues.items i.0 (i.1 ∙ c.args.queues.ok.0))
    l.yielded l.queue-iterator l.yielded_by c.next.result c.next.new.self c.in-None.is c.next.ensures.steps in
    l.invariant.2 ∙ ap (λ (queues : List _). map Some queues) (sym (map-id l.yielded) ∙ all.0)
