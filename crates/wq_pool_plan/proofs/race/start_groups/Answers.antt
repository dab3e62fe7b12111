use Rattle.wq_pool_plan.proofs.Common.{◌≡◌, ◌∙◌, ℕ, ◌+◌, ◌-◌, vec_len, sym, ap, subst, length, get_or, List, arith, length-append, [], ◌∷◌, All, get_or_default}
use Rattle.wq_pool_plan.proofs.Common.{All-take, YieldsList-from_vec, YieldsList-turn, PromisedHandle, each_more, IsCallerOf, Group, QueuesGroup}
use Rattle.wq_calls.proofs.Seated.{all_last}
use Rattle.wq_pool_plan.specs.Race.{IsGroupFor}
use Rattle.wq_pool_plan.proofs.race.start_groups.Goals as goal

pub push_reserved-requires : goal.push_reserved-requires
push_reserved-requires g c =
    let i = c.into_iter-group-iterator.ensures.into_iter_gives in let l = c.loop-group in
    let turn = YieldsList-turn (YieldsList-from_vec {s = c.into_iter-group-iterator.result} c.args.groups.items i.0 (i.1
    ∙ c.args.groups.ok.0)) l.yielded l.group-iterator l.yielded_by c.next.result c.next.new.self c.in-Some.group c.in-Some.is c.next.ensures.steps in
    omega (arith, turn.0, l.invariant.count, l.invariant.room, l.handles.ok.0, c.args.groups.ok.0)

pub loop-group-preserved : goal.loop-group-preserved
loop-group-preserved g c =
    let i = c.into_iter-group-iterator.ensures.into_iter_gives in let l = c.loop-group in
    let turn = YieldsList-turn (YieldsList-from_vec {s = c.into_iter-group-iterator.result} c.args.groups.items i.0 (i.1
    ∙ c.args.groups.ok.0)) l.yielded l.group-iterator l.yielded_by c.next.result c.next.new.self c.in-Some.group c.in-Some.is c.next.ensures.steps in
    let xs = l.handles.items in let h = c.in-Some-start_group.handle in let all = c.args.groups.items in
    let kept = c.push_reserved.ensures.items in
    let P : ℕ → PromisedHandle Group QueuesGroup → Type 0 = λ k handle. (e : Group)
    → (handle.promise.group.value ≡ get_or all k e) × (handle.promise.own ≡ c.args.own) in
    let here : P (length xs) h = λ e.
    let at : get_or all (length l.yielded) c.in-Some.group ≡ get_or all (length l.yielded) e = get_or_default all
    (length l.yielded) c.in-Some.group e turn.0 in
    (c.in-Some-start_group.ensures.0 ∙ (turn.1 ∙ (at ∙ ap (λ (k : ℕ). get_or all k e) (sym l.invariant.count))), c.in-Some-start_group.ensures.1) in
    let fewer : length c.pop.new.self.items + 1 ≡ length l.callers.items = sym (ap length c.in-Some-pop.ensures.items
    ∙ length-append c.pop.new.self.items (c.in-Some-pop.caller ∷ [])) in
    record {
      count = ap length kept ∙ omega (arith, l.invariant.count, length-append xs (h ∷ []), length-append l.yielded (c.in-Some.group ∷ []));
      room = omega (arith, c.push_reserved.ensures.capacity, l.invariant.room);
      given = λ k d e lt. subst (λ (hs : List (PromisedHandle Group QueuesGroup)). P k (get_or hs k d)) (sym kept)
          (each_more P xs h (λ k d lt e. l.invariant.given k d e lt) here k d (omega (arith, lt, ap length kept))) e;
      callers = subst (All (IsCallerOf c.args.pool.now.ready)) (sym c.pop.ensures.rest)
          (All-take (IsCallerOf c.args.pool.now.ready) (vec_len l.callers - 1) l.callers.items l.invariant.callers);
      enough = omega (arith, l.invariant.enough, fewer, length-append l.yielded (c.in-Some.group ∷ []));
    }

-- a caller for each of the groups that are left
pub unreachable-requires : goal.unreachable-requires
unreachable-requires g c =
    let i = c.into_iter-group-iterator.ensures.into_iter_gives in let l = c.loop-group in
    let turn = YieldsList-turn (YieldsList-from_vec {s = c.into_iter-group-iterator.result} c.args.groups.items i.0 (i.1
    ∙ c.args.groups.ok.0)) l.yielded l.group-iterator l.yielded_by c.next.result c.next.new.self c.in-Some.group c.in-Some.is c.next.ensures.steps in
    omega (arith, l.invariant.enough, turn.0, c.in_default.ensures.cases.0, l.callers.ok.0)

pub start_group-requires-clause-caller : goal.start_group-requires-clause-caller
start_group-requires-clause-caller g c κs within =
    let P = IsCallerOf c.args.pool.now.ready in
    all_last P c.pop.new.self.items c.in-Some-pop.caller (subst (All P) c.in-Some-pop.ensures.items c.loop-group.invariant.callers)

pub start_group-requires-clause-ready : goal.start_group-requires-clause-ready
start_group-requires-clause-ready g c κs within =
    let i = c.into_iter-group-iterator.ensures.into_iter_gives in let l = c.loop-group in
    let turn = YieldsList-turn (YieldsList-from_vec {s = c.into_iter-group-iterator.result} c.args.groups.items i.0 (i.1
    ∙ c.args.groups.ok.0)) l.yielded l.group-iterator l.yielded_by c.next.result c.next.new.self c.in-Some.group c.in-Some.is c.next.ensures.steps in
    subst (IsGroupFor c.args.own c.args.pool.now) (sym turn.1) (c.requires.ready (length l.yielded) c.in-Some.group turn.0)
