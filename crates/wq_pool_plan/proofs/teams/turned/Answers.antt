use Rattle.wq_pool_plan.proofs.Common.{◌≡◌, ℕ, ◌+◌, List, [], ◌∷◌, ◌++◌, length, take, drop, get_or, sym, ◌∙◌, subst, length-append, get_or_default}
use Rattle.wq_pool_plan.proofs.Common.{YieldsList-from_vec, YieldsList-turn, Group, AreDealt, whole_items}
use Rattle.wq_pool_plan.proofs.Seats.{AreTurnedSoFar, turned_more}
use Rattle.wq_pool_plan.proofs.teams.turned.Goals as goal

pub loop-group-preserved : goal.loop-group-preserved
loop-group-preserved c =
    let i = c.into_iter-group-iterator.ensures.into_iter_gives in let l = c.loop-group in let group = c.in-Some.group in
    let turn = YieldsList-turn (YieldsList-from_vec {s = c.into_iter-group-iterator.result} c.args.groups.items i.0 (i.1
    ∙ c.args.groups.ok.0)) l.yielded l.group-iterator l.yielded_by c.next.result c.next.new.self group c.in-Some.is c.next.ensures.steps in
    let here : (e : Group) → get_or c.args.groups.items (length l.yielded) e ≡ group = λ e.
    get_or_default c.args.groups.items (length l.yielded) e group turn.0 ∙ sym turn.1 in
    let olds = l.turned.items in let news = c.deal.new.groups in
    let dealt : AreDealt group.senders.items olds news = subst (λ (zs : List Group). AreDealt group.senders.items zs news)
    c.deref_mut.ensures.value c.in_ok-deal.ensures in
    let more = turned_more (length l.yielded) c.args.count c.args.groups.items group olds news l.invariant dealt here in
    let size : length (l.yielded ++ group ∷ []) ≡ length l.yielded + 1 = length-append l.yielded (group ∷ []) in
    let whole = whole_items l.turned.len news olds (dealt.count ∙ sym l.turned.ok.0) in
    subst (λ (k : ℕ). AreTurnedSoFar k c.args.count c.args.groups.items (take l.turned.len (news ++ drop (length news) olds))) (sym size)
    (subst (λ (zs : List Group). AreTurnedSoFar (length l.yielded + 1) c.args.count c.args.groups.items zs) (sym whole) more)
