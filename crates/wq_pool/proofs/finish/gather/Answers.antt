use Rattle.wq_worker.specs.Rows.{Along}
use Rattle.wq_turn.specs.Drained.{ClosesAndWorks}
use Rattle.wq_turn.specs.Steps.{EndsJust}
use Rattle.wq_pool.proofs.Common.{◌≡◌, ℕ, length, slice_get, Some, sym, ap, ◌∙◌, subst, arith, rules, IsDrained, TurnState, turn_id, FirstLeft}
use Rattle.wq_pool.proofs.Common.{IsWorkerAt, WasDrainedAt, GoesOnAt}
use Rattle.wq_pool.proofs.GoingOn.{goes_on_at}
use Rattle.wq_pool.proofs.Gathering.{first_more, left_more, drained_more}
use Rattle.wq_pool.proofs.finish.gather.Goals as goal

pub loop-queue-preserved : goal.loop-queue-preserved
loop-queue-preserved g c =
    let k = g.K.Station in let state = k.state in let l = c.loop-queue in let i = l.invariant in let slots = c.args.slots.now in
    let t = c.into_worked.result in let limit = c.args.limit in let start = c.in-Some.turn.worker in
    let drain = c.drain-more.ensures in let into = c.into_worked.ensures in let up = c.in-Some.ensures in
    let at : length l.all.items ≡ l.queue = search rules in
    let there : slice_get slots.workers l.queue ≡ Some (turn_id state t) =
    up.worker ∙ ap Some (sym (ap (λ (u : TurnState _). turn_id state u) into ∙ drain.same.worker_is)) in
    let worker_is : IsWorkerAt state slots.workers (length l.all.items) t.worker =
    subst (λ (q : ℕ). IsWorkerAt state slots.workers q t.worker) (sym at) there in
    let told : FirstLeft l.left (length l.all.items) c.drain-more.result c.first_left-left.result =
    subst (λ (q : ℕ). FirstLeft l.left q c.drain-more.result c.first_left-left.result) (sym at) c.first_left-left.ensures in
    let leaves : IsDrained c.drain-more.result (state t.worker) =
    subst (λ (u : TurnState _). IsDrained c.drain-more.result (state u.worker)) (sym into) drain.left in
    let on : GoesOnAt state k.deals slots.states (length l.all.items) t.worker =
    subst (λ (z : ℕ × TurnState _). GoesOnAt state k.deals slots.states z.0 z.1.worker) (λ i. (sym at i, sym into i))
    (goes_on_at state k.deals slots.states l.queue start c.drain-more.new.self.worker up.goes_on drain.same.begins drain.deals) in
    let drained : WasDrainedAt state k.may k.gives k.deals limit slots.workers slots.states (length l.all.items) t.worker = record {
      start = start;
      start_is = subst (λ (q : ℕ). IsWorkerAt state slots.workers q start) (sym at) up.worker;
      goes_on = subst (λ (q : ℕ). GoesOnAt state k.deals slots.states q start) (sym at) up.goes_on;
      worker_is = worker_is;
      idle = up.idle;
      works = subst (λ (u : TurnState _). ClosesAndWorks k.may k.gives limit (state start) (state u.worker)) (sym into) drain.works;
      dealt = subst (λ (u : TurnState _). Along k.deals start u.worker) (sym into) drain.deals;
    } in (
      first_more state k.deals slots l.all.items c.push_reserved.new.self.items t i.0 (omega (arith, at, c.count-queue-end.ensures, c.loop-queue-test.true))
          (ap (λ (u : TurnState _). u.slots) into ∙ (drain.same.slots_is ∙ up.slots)) worker_is on c.push_reserved.ensures.items,
      search rules,
      search rules,
      drained_more state k.may k.gives k.deals limit slots.workers slots.states l.all.items c.push_reserved.new.self.items t i.3 drained
          c.push_reserved.ensures.items,
      left_more state k.may k.gives k.deals limit slots.workers slots.states l.left c.first_left-left.result l.all.items c.push_reserved.new.self.items t
          c.drain-more.result i.3 i.4 told drained leaves
          (λ some. subst (λ (u : TurnState _). EndsJust limit (state start).seen (state u.worker).seen) (sym into) (drain.executed some))
          c.push_reserved.ensures.items,
    )

pub returns-in_default : goal.returns-in_default
returns-in_default g c =
    let i = c.loop-queue.invariant in
    record {
      first = i.0;
      all = tt;
      drained = i.3;
      left = i.4;
      out = (omega (arith, i.1), omega (arith, c.count-queue-end.ensures, c.loop-queue-test.true));
    }

pub returns : goal.returns
returns g c =
    let i = c.loop-queue.invariant in
    record {
      first = i.0;
      all = omega (arith, i.1, c.count-queue-end.ensures, c.loop-queue-test.false);
      drained = i.3;
      left = i.4;
      out = tt;
    }
