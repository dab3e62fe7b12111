use Rattle.std.specs.Prelude.{IfSome, IfNone}
use Rattle.std.proofs.lemmas.List.{take_all}
use Rattle.wq_pool.proofs.Common.{◌≡◌, ℕ, ◌<◌, Option, List, map, length, sym, refl, ap, ◌∙◌, subst, arith, length-map, turn_id, PoolState, WorkerId}
use Rattle.wq_pool.proofs.Common.{AreFinishedBy, LeavesOf, FirstWereDrained, IsLeftTo, ComeFromDrains, BeginAsHandedIn}
use Rattle.wq_pool.proofs.Gathering.{finished_count, finished_each, first_drained, parts_drained, parts_go_on}
use Rattle.wq_pool.proofs.pool.PoolOf.finish.Goals as goal

pub lay_all-requires : goal.lay_all-requires
lay_all-requires g c = λ k d low. c.gather-all.ensures.first.slots_are k d low ∙ ap (λ (p : PoolState _). p.slots) c.self.view_is

pub lay_all-requires-in-None-Some : goal.lay_all-requires-in-None-Some
lay_all-requires-in-None-Some g c = λ k d low. c.gather-all.ensures.first.slots_are k d low ∙ ap (λ (p : PoolState _). p.slots) c.self.view_is

pub returns-in_default : goal.returns-in_default
returns-in_default g c = record { finished = tt; count = tt; each = tt; drained = tt; begins = tt; fault = refl }

pub returns-in_default-with_capacity : goal.returns-in_default-with_capacity
returns-in_default-with_capacity g c = record { finished = tt; count = tt; each = tt; drained = tt; begins = tt; fault = refl }

pub returns-in-Some-default : goal.returns-in-Some-default
returns-in-Some-default g c =
    let k = g.K.Station in let all = c.gather-all.result.all.items in let slots = c.self.inside.slots in let q = c.in-Some-default.queue in
    let same : slots.workers ≡ c.args.self.workers = ap (λ (p : PoolState _). p.workers) c.self.view_is in
    let out : (q ≡ length all) × (q < length slots.workers) =
    subst (λ (o : Option ℕ). IfSome o (λ z. (z ≡ length all) × (z < length slots.workers))) c.in-Some-default.is-0 c.gather-all.ensures.out in
    record {
      finished = tt;
      count = tt;
      each = tt;
      drained = tt;
      begins = tt;
      fault = (
        refl,
        subst (λ (ids : List WorkerId). q < length ids) same out.1,
        subst (λ (p : PoolState _). FirstWereDrained k.state k.may k.gives k.deals c.args.limit p.workers p.states q) c.self.view_is
            (first_drained k.state k.may k.gives k.deals c.args.limit slots.workers slots.states all q c.gather-all.ensures.drained out.0),
      );
    }

pub returns-in-None-Some : goal.returns-in-None-Some
returns-in-None-Some g c =
    let k = g.K.Station in let all = c.gather-all.result.all.items in let slots = c.self.inside.slots in let q = c.in-None-Some.queue in
    let count : length all ≡ length slots.workers =
    subst (λ (o : Option ℕ). IfNone o (length all ≡ length slots.workers)) c.in-None-Some.is-0 c.gather-all.ensures.all in
    let left =
    subst (λ (o : Option (ℕ × ℕ)). LeavesOf k.state k.may k.gives k.deals c.args.limit slots.workers slots.states all o) c.in-None-Some.is-1
    c.gather-all.ensures.left in
    record {
      finished = tt;
      count = tt;
      each = tt;
      drained = tt;
      begins = tt;
      fault = (
        refl,
        (
          left.0.worker,
          subst (λ (p : PoolState _). IsLeftTo k.state k.may k.gives k.deals c.args.limit p.workers p.states q c.in-None-Some.left left.0.worker)
              c.self.view_is left.2,
        ),
        subst (λ (p : PoolState _). FirstWereDrained k.state k.may k.gives k.deals c.args.limit p.workers p.states (length p.workers)) c.self.view_is
            (first_drained k.state k.may k.gives k.deals c.args.limit slots.workers slots.states all (length slots.workers)
            c.gather-all.ensures.drained (sym count)),
      );
    }

pub returns-in-None-None : goal.returns-in-None-None
returns-in-None-None g c =
    let k = g.K.Station in let all = c.gather-all.result.all.items in let slots = c.self.inside.slots in let parts = c.take_apart-parts.result.items in
    let first = c.gather-all.ensures.first in let e = c.take_apart-parts.ensures in let ids = map (turn_id k.state) all in
    let same : slots.workers ≡ c.args.self.workers = ap (λ (p : PoolState _). p.workers) c.self.view_is in
    let count : length all ≡ length slots.workers =
    subst (λ (o : Option ℕ). IfNone o (length all ≡ length slots.workers)) c.in-None-None.is-0 c.gather-all.ensures.all in
    let ids_are : ids ≡ c.args.self.workers = first.workers_are ∙ (take_all (length all) slots.workers (omega (arith, count)) ∙ same) in
    record {
      finished = subst (λ (ws : List WorkerId). AreFinishedBy k.book k.has_run ws parts) ids_are e.finished;
      count = finished_count k.book k.has_run ids parts e.finished ∙ (length-map all (turn_id k.state) ∙ (count ∙ ap (length {A = WorkerId}) same));
      each = finished_each k.book k.has_run ids parts e.finished;
      drained = subst (λ (p : PoolState _). ComeFromDrains k.state k.may k.gives k.deals c.args.limit k.book k.has_brought p.workers p.states parts)
          c.self.view_is
          (parts_drained k.state k.may k.gives k.deals c.args.limit k.book k.has_brought slots.workers slots.states all parts c.gather-all.ensures.drained
          e.parts);
      begins = subst (λ (states : List _). BeginAsHandedIn k.state k.deals k.book k.has_brought states parts)
          (ap (λ (p : PoolState _). p.states) c.self.view_is)
          (parts_go_on k.state k.deals k.book k.has_brought slots all parts first e.parts);
      fault = tt;
    }
