use Rattle.std.proofs.lemmas.Iterator.Adapters.{YieldsList-from_vec}
use Rattle.std.proofs.lemmas.Iterator.Consumers.{YieldsList-turn, YieldsList-end}
use Rattle.wq_pool.proofs.Common.{List, [], ◌∷◌, map, length, sym, ◌∙◌, subst, arith, length-append, map-id, IsComplete, TurnState, turn_id}
use Rattle.wq_pool.proofs.Common.{AreFinishedBy, AreTakenApart}
use Rattle.wq_pool.proofs.Gathering.{finished_next, parts_next}
use Rattle.wq_pool.proofs.finish.take_apart.Goals as goal

pub into_parts-requires : goal.into_parts-requires
into_parts-requires g c =
    let i = c.into_iter-worked-iterator.ensures.into_iter_gives in let l = c.loop-worked in
    let turn = YieldsList-turn (YieldsList-from_vec {s = c.into_iter-worked-iterator.result} c.args.all.items i.0 (i.1 ∙ c.args.all.ok.0))
    l.yielded l.worked-iterator l.yielded_by c.next.result c.next.new.self c.in-Some.worked c.in-Some.is c.next.ensures.steps in
    subst (λ (t : TurnState _). IsComplete (g.K.Station.state t.worker).seen) (sym turn.1) (c.requires.complete (length l.yielded) c.in-Some.worked turn.0)

pub push_reserved-requires : goal.push_reserved-requires
push_reserved-requires g c =
    let i = c.into_iter-worked-iterator.ensures.into_iter_gives in let l = c.loop-worked in
    let turn = YieldsList-turn (YieldsList-from_vec {s = c.into_iter-worked-iterator.result} c.args.all.items i.0 (i.1 ∙ c.args.all.ok.0))
    l.yielded l.worked-iterator l.yielded_by c.next.result c.next.new.self c.in-Some.worked c.in-Some.is c.next.ensures.steps in
    omega (arith, turn.0, l.invariant.3, l.invariant.4, c.args.all.ok.0)

pub loop-worked-preserved : goal.loop-worked-preserved
loop-worked-preserved g c =
    let k = g.K.Station in let l = c.loop-worked in let i = l.invariant in (
      tt,
      tt,
      finished_next k.book k.has_run (turn_id k.state) l.yielded c.in-Some.worked l.finished.items c.push_reserved.new.self.items c.into_parts.result
          i.2 c.into_parts.ensures.finished c.push_reserved.ensures.items,
      omega (arith, c.push_reserved.ensures.len, i.3, length-append l.yielded (c.in-Some.worked ∷ [])),
      omega (arith, c.push_reserved.ensures.capacity, i.4),
      parts_next k.state k.book k.has_brought l.yielded c.in-Some.worked l.finished.items c.push_reserved.new.self.items c.into_parts.result i.5
          (omega (arith, i.3)) c.into_parts.ensures.parts c.push_reserved.ensures.items,
    )

pub returns-clause-finished : goal.returns-clause-finished
returns-clause-finished g c =
    let k = g.K.Station in let i = c.into_iter-worked-iterator.ensures.into_iter_gives in let l = c.loop-worked in
    let all = YieldsList-end (YieldsList-from_vec {s = c.into_iter-worked-iterator.result} c.args.all.items i.0 (i.1 ∙ c.args.all.ok.0))
    l.yielded l.worked-iterator l.yielded_by c.next.result c.next.new.self c.in-None.is c.next.ensures.steps in
    subst (λ (ts : List (TurnState _)). AreFinishedBy k.book k.has_run (map (turn_id k.state) ts) l.finished.items) (sym (map-id l.yielded) ∙ all.0)
    l.invariant.2

pub returns-clause-parts : goal.returns-clause-parts
returns-clause-parts g c =
    let k = g.K.Station in let i = c.into_iter-worked-iterator.ensures.into_iter_gives in let l = c.loop-worked in
    let all = YieldsList-end (YieldsList-from_vec {s = c.into_iter-worked-iterator.result} c.args.all.items i.0 (i.1 ∙ c.args.all.ok.0))
    l.yielded l.worked-iterator l.yielded_by c.next.result c.next.new.self c.in-None.is c.next.ensures.steps in
    subst (λ (ts : List (TurnState _)). AreTakenApart k.state k.book k.has_brought ts l.finished.items) (sym (map-id l.yielded) ∙ all.0) l.invariant.5
