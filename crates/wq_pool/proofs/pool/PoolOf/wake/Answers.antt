use Rattle.wq_ready.specs.declared.event.ReadyEvent.TheVariants.{Announce}
use Rattle.wq_ready.specs.Known.{CallerSees}
use Rattle.wq_pool.specs.Pool.{says_wakes}
use Rattle.wq_pool.proofs.Common.{◌≡◌, ◌<◌, ◌≤◌, true, [], ◌∷◌, length, refl, ap, ◌∙◌, subst, arith, CallerState, PoolState, GoesOnFrom}
use Rattle.wq_pool.proofs.GoingOn.{goes_still, goes_by_announce, still_refused}
use Rattle.wq_pool.proofs.pool.PoolOf.wake.Goals as goal

pub returns-then-queue-count : goal.returns-then-queue-count
returns-then-queue-count g c =
    let count = c.count.ensures ∙ ap (λ (p : PoolState _). length p.workers) c.self.view_is in
    let past : length c.args.self.now.workers ≤ c.args.queue = omega (arith, count, c.if-queue-count.true) in
    record {
      known = (λ is. absurd (cc), λ low. absurd (omega (arith, past, low)));
      no_queue = (λ is. past, λ high. refl);
      wakes = λ woke. refl;
      quiet = λ rests. refl;
      goes_on = goes_still c.args.caller.now;
      caller = c.requires;
    }

pub loop-preserved : goal.loop-preserved
loop-preserved g c =
    still_refused c.args.queue c.in-Err.field-0 c.loop.caller c.announce.new.caller c.in-Err.ensures.seen ∙ c.loop.invariant

pub returns-in-Ok : goal.returns-in-Ok
returns-in-Ok g c =
    let new = c.announce.new.caller in let queued = c.in-Queued-default-true in
    let count = c.count.ensures ∙ ap (λ (p : PoolState _). length p.workers) c.self.view_is in
    let low : c.args.queue < length c.args.self.now.workers = omega (arith, count, c.if-queue-count.false) in
    let woke : says_wakes c.args.answer ≡ true = ap says_wakes queued.is ∙ queued.wakes-test in
    record {
      known = (λ is. low, λ below. refl);
      no_queue = (λ is. absurd (cc), λ past. absurd (omega (arith, low, past)));
      wakes = λ is. subst (λ (z : CallerState). CallerSees (Announce z.number c.args.queue ∷ []) z new) c.loop.invariant c.in-Ok.ensures.seen;
      quiet = λ rests. absurd (cc);
      goes_on = subst (λ (z : CallerState). GoesOnFrom z new) c.loop.invariant
          (goes_by_announce c.args.queue c.announce.result c.loop.caller new c.announce.ensures.seen);
      caller = c.in-Ok.ensures.caller;
    }
