use Rattle.wq_race.proofs.Common.{◌≡◌, ◌∙◌, ℕ, sym, ap, subst, length, get_or, List, arith, length-append, [], ◌∷◌, get_or_default, YieldsList-from_vec}
use Rattle.wq_race.proofs.Common.{YieldsList-turn, PromisedHandle, Sender, Known, QueuesOwn}
use Rattle.wq_words.proofs.Written.{each_more}
use Rattle.wq_race.proofs.race.start_senders.Goals as goal

pub push_reserved-requires : goal.push_reserved-requires
push_reserved-requires g c =
    let i = c.into_iter-sender-iterator.ensures.into_iter_gives in let l = c.loop-sender in
    let turn = YieldsList-turn (YieldsList-from_vec {s = c.into_iter-sender-iterator.result} c.args.senders.items i.0 (i.1
    ∙ c.args.senders.ok.0)) l.yielded l.sender-iterator l.yielded_by c.next.result c.next.new.self c.in-Some.sender c.in-Some.is c.next.ensures.steps in
    omega (arith, turn.0, l.invariant.count, l.invariant.room, l.handles.ok.0, c.args.senders.ok.0)

pub loop-sender-preserved : goal.loop-sender-preserved
loop-sender-preserved g c =
    let i = c.into_iter-sender-iterator.ensures.into_iter_gives in let l = c.loop-sender in
    let turn = YieldsList-turn (YieldsList-from_vec {s = c.into_iter-sender-iterator.result} c.args.senders.items i.0 (i.1
    ∙ c.args.senders.ok.0)) l.yielded l.sender-iterator l.yielded_by c.next.result c.next.new.self c.in-Some.sender c.in-Some.is c.next.ensures.steps in
    let xs = l.handles.items in let h = c.in-Some-start_sender.handle in let all = c.args.senders.items in
    let kept = c.push_reserved.ensures.items in
    let P : ℕ → PromisedHandle Sender QueuesOwn → Type 0 = λ k handle. (e : Known)
    → (handle.promise.sender.value ≡ get_or all k e) × (handle.promise.own ≡ c.args.own) in
    let here : P (length xs) h = λ e.
    let at : get_or all (length l.yielded) c.in-Some.sender ≡ get_or all (length l.yielded) e = get_or_default all
    (length l.yielded) c.in-Some.sender e turn.0 in
    (c.in-Some-start_sender.ensures.0 ∙ (turn.1 ∙ (at ∙ ap (λ (k : ℕ). get_or all k e) (sym l.invariant.count))), c.in-Some-start_sender.ensures.1) in
    record {
      count = ap length kept ∙ omega (arith, l.invariant.count, length-append xs (h ∷ []), length-append l.yielded (c.in-Some.sender ∷ []));
      room = omega (arith, c.push_reserved.ensures.capacity, l.invariant.room);
      given = λ k d e lt. subst (λ (hs : List (PromisedHandle Sender QueuesOwn)). P k (get_or hs k d)) (sym kept)
          (each_more P xs h (λ k d lt e. l.invariant.given k d e lt) here k d (omega (arith, lt, ap length kept))) e;
    }
