use Rattle.wq_ready.specs.declared.size.Size.{Size}
use Rattle.wq_pool.specs.Pool.{IsNoPool}
use Rattle.wq_pool.proofs.Common.{◌≡◌, ℕ, ◌≤◌, ◌≢◌, List, length, sym, ap, ◌∙◌, subst, inl, inr, arith, length-map, id_of}
use Rattle.wq_pool.proofs.pool.PoolOf.new.Goals as goal

is_pool : (n : ℕ) → n ≢ 0 → n ≤ 256 → IsNoPool n → ⊥
is_pool n some few (inl none) = some none
is_pool n some few (inr many) = omega (arith, few, many)

pub returns-in_default : goal.returns-in_default
returns-in_default g c =
    let n = length c.args.queues.items in
    let some : n ≢ 0 = omega (arith, c.len-count.ensures, c.args.queues.ok.0, c.if-count-eq0.false) in
    let few : n ≤ 256 = omega (arith, c.len-count.ensures, c.args.queues.ok.0, c.if-count-gt-MOST_QUEUES.false) in
    record {
      no_queue = (λ is. absurd (cc), λ no. absurd (is_pool n some few no));
      workers = tt;
      states = tt;
      size = tt;
      callers = tt;
      count = tt;
      ready = tt;
    }

pub returns-in_default-new : goal.returns-in_default-new
returns-in_default-new g c =
    let n = length c.args.queues.items in
    let some : n ≢ 0 = omega (arith, c.len-count.ensures, c.args.queues.ok.0, c.if-count-eq0.false) in
    let few : n ≤ 256 = omega (arith, c.len-count.ensures, c.args.queues.ok.0, c.if-count-gt-MOST_QUEUES.false) in
    record {
      no_queue = (λ is. absurd (cc), λ no. absurd (is_pool n some few no));
      workers = tt;
      states = tt;
      size = tt;
      callers = tt;
      count = tt;
      ready = tt;
    }

pub invariant_of-pool : goal.invariant_of-pool
invariant_of-pool g c =
    let queues = c.args.queues.items in let count : c.len-count.result ≡ length queues = omega (arith, c.len-count.ensures, c.args.queues.ok.0) in
    record {
      count_is = ap (λ (size : Size). size.queues) c.in-Ok-new.ensures.size
          ∙ (count ∙ (sym (length-map queues (id_of g.K.Station.state)) ∙ sym (ap (λ (ids : List _). length ids) c.in-Ok.ensures.workers)));
    }

pub returns : goal.returns
returns g c =
    let n = length c.args.queues.items in let slots = c.in-Ok.ensures in let e = c.in-Ok-new.ensures in
    let count : c.len-count.result ≡ n = omega (arith, c.len-count.ensures, c.args.queues.ok.0) in
    let some : n ≢ 0 = omega (arith, count, c.if-count-eq0.false) in
    let few : n ≤ 256 = omega (arith, count, c.if-count-gt-MOST_QUEUES.false) in
    record {
      no_queue = (λ is. absurd (cc), λ no. absurd (is_pool n some few no));
      workers = slots.workers;
      states = slots.states;
      size = subst (λ (k : ℕ). c.in-Ok-new.ready.size ≡ record { queues = k; callers = c.args.callers }) count e.size;
      callers = e.callers;
      count = e.count;
      ready = e.ready;
    }
