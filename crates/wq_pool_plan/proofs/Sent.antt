-- From new seats to what came of them.
use Rattle.wq_pool_plan.proofs.Common.{◌≡◌, ℕ, ◌+◌, ◌*◌, ◌^◌, ◌<◌, ◌≤◌, List, [], ◌∷◌, length, map, get_or, sym, ap, ◌∙◌, subst, arith, AllByRecursion}
use Rattle.wq_pool_plan.proofs.Common.{get_or-map, length-map, Event, Layout, own, Known, new_sender, WorkerState, RunCounter, Plan, HasQueuedStop}
use Rattle.wq_pool_plan.proofs.Common.{IsOfStop, IsQueuer, own_room, own-first, queuer, WorkerId, worker_id, Group, Teams, AreCallersOf, MayRun}
use Rattle.wq_pool_plan.proofs.Common.{AllGroupsQueued, AllStopped}
use Rattle.wq_pool_plan.proofs.Common.{IsSent, AllSent, AreTurned, AreTeams}
use Rattle.wq_pool.specs.Known.{PoolState}
use Rattle.wq_pool_plan.specs.declared.race.Callers.{Callers}

first_of : {A : Type 0} (xs : List A) → 0 < length xs → A
first_of [] some = absurd (omega (arith, some))
first_of (x ∷ xs) some = x

module _ (plan : Plan) (teams : Teams) (t : AreTeams plan teams) (count : length teams.served.items ≡ plan.queues) where
  -- the worker of some queue
  someone : WorkerState RunCounter
  someone = first_of teams.served.items (omega (arith, count, plan.in_limits.some_queue))

  pub may_run : {K : Type 0} (pool : PoolState K) (callers : Callers) → pool.workers ≡ map worker_id teams.served.items
      → AreCallersOf pool.ready plan.senders callers
      → MayRun plan.own pool callers teams.groups.items teams.programs.items
  may_run pool callers workers called =
      let queues : length pool.workers ≡ plan.queues = ap length workers ∙ (length-map teams.served.items worker_id ∙ count) in
      record {
        called = subst (λ (n : ℕ). AreCallersOf pool.ready n callers) (sym t.groups_count) called;
        ready = λ s d lt. let low : s < plan.senders = omega (arith, lt, t.groups_count) in let size = t.lengths s d low in record {
          places = omega (arith, size, queues, count);
          few = omega (arith, size, count, plan.in_limits.few_queues);
          rooms = λ q x few.
              let within : q < length teams.served.items = omega (arith, few, size) in
              let at = t.senders s q someone d x low within in let sized = t.sized q someone within in
              subst (λ (k : Known). k.number * plan.own + plan.own ≤ k.layout.items) (sym at)
              (omega (arith, own_room s plan.senders plan.own low, sized.items_is));
        };
        places = omega (arith, t.programs_count, queues, count);
        few = omega (arith, t.programs_count, count, plan.in_limits.few_queues);
      }

  -- the groups that came back are as large as those that went
  pub same_size : (groups : List Group) → AllGroupsQueued plan.own teams.groups.items groups → (s : ℕ) (d : Group) → s < length groups
      → length (get_or groups s d).senders.items ≡ plan.queues
  same_size groups back s d lt =
      let low : s < length teams.groups.items = omega (arith, lt, back.count) in
      (back.each s d d low).count ∙ (t.lengths s d (omega (arith, low, t.groups_count)) ∙ count)

  stopped : (q : ℕ) (w : WorkerState RunCounter) (a b : Known) → a ≡ new_sender w.queue w.layout (plan.senders + 1) → HasQueuedStop a b
      → (b.number ≡ plan.senders + 1) × (b.queue ≡ w.queue) × AllByRecursion (IsOfStop w.layout) (own (plan.senders + 1) b.seen)
      × (length (own (plan.senders + 1) b.seen) ≤ 2 * 2 ^ 32)
  stopped q w a b new queued =
      let h = queued.stopped in
      let number : a.number ≡ plan.senders + 1 = ap (λ (k : Known). k.number) new in
      let mine : own (plan.senders + 1) b.seen ≡ h.events = subst (λ (c : ℕ). own c b.seen ≡ h.events) number
      (own-first a.number h.events a.seen b.seen (ap (λ (k : Known). k.seen) new) h.grows) in (
        h.same.number_is ∙ number,
        h.same.queue_is ∙ ap (λ (k : Known). k.queue) new,
        subst (λ (l : Layout). AllByRecursion (IsOfStop l) (own (plan.senders + 1) b.seen)) (ap (λ (k : Known). k.layout) new)
            (subst (λ (es : List Event). AllByRecursion (IsOfStop a.layout) es) (sym mine) h.of_stop),
        subst (λ (es : List Event). length es ≤ 2 * 2 ^ 32) (sym mine) h.few_events,
      )

  pub all_sent : (groups by_queue : List Group) (programs : List Known) → AllGroupsQueued plan.own teams.groups.items groups
      → AreTurned plan.queues groups by_queue → AllStopped teams.programs.items programs
      → AllSent plan (map worker_id teams.served.items) by_queue programs
  all_sent groups by_queue programs back turned stops =
      let size : length (map worker_id teams.served.items) ≡ length teams.served.items = length-map teams.served.items worker_id in record {
        groups_count = omega (arith, turned.count_is, size, count);
        programs_count = omega (arith, stops.count, t.programs_count, size);
        each = λ q i d x lt.
            let within : q < length teams.served.items = omega (arith, lt, size) in let few : q < plan.queues = omega (arith, within, count) in
            let w = get_or teams.served.items q someone in
            let id : get_or (map worker_id teams.served.items) q i ≡ worker_id w = get_or-map worker_id teams.served.items q someone i within in
            let p = stopped q w (get_or teams.programs.items q x) (get_or programs q x) (t.programs q someone x within)
            (stops.each q x x (omega (arith, within, t.programs_count))) in
            let sent : IsSent plan (worker_id w) (get_or by_queue q d).senders.items (get_or programs q x) = record {
              sized = t.sized q someone within;
              number_is = t.numbers q someone within;
              count = turned.lengths q d few ∙ (back.count ∙ t.groups_count);
              each = λ s y low.
                  let here : s < length teams.groups.items = omega (arith, low, t.groups_count) in
                  let old = get_or (get_or teams.groups.items s d).senders.items q y in let new = get_or (get_or groups s d).senders.items q y in
                  let made : IsQueuer plan.own w.queue w.layout s new = queuer plan.own s w.queue w.layout old new (t.senders s q someone d y low within)
                  ((back.each s d d here).each q y (omega (arith, within, t.lengths s d low))) in
                  subst (IsQueuer plan.own w.queue w.layout s) (sym (turned.each s q d d y y (omega (arith, here, back.count)) few)) made;
              program_number = p.0;
              program_queue = p.1;
              stopped = subst (λ (k : Known). HasQueuedStop k (get_or programs q x)) (t.programs q someone x within)
                  (stops.each q x x (omega (arith, within, t.programs_count)));
              stops = p.2;
              few_stops = p.3;
            } in
            subst (λ (z : WorkerId). IsSent plan z (get_or by_queue q d).senders.items (get_or programs q x)) (sym id) sent;
      }
