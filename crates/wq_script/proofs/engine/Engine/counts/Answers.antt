use Rattle.wq_script.proofs.Common.{◌≡◌, ◌∙◌, ◌-◌, ap, arith, length, DelayTable}
use Rattle.wq_script.proofs.Reports.{sums}
use Rattle.wq_script.proofs.engine.Engine.counts.Goals as goal

pub overflow_add-accepted : goal.overflow_add-accepted
overflow_add-accepted c = let u = sums c.args.self.now c.requires.ready c.counts-totals.result c.counts-totals.ensures.counted in
    omega (arith, u.accepts, u.some, u.finds_busy, u.some_busy, u.refuses, u.some_refused, u.chains, u.ends, u.order)

pub overflow_add-accepted-2 : goal.overflow_add-accepted-2
overflow_add-accepted-2 c = let u = sums c.args.self.now c.requires.ready c.counts-totals.result c.counts-totals.ensures.counted in
    omega (arith, u.accepts, u.some, u.finds_busy, u.some_busy, u.refuses, u.some_refused, u.chains, u.ends, u.order)

pub overflow_cast-result : goal.overflow_cast-result
overflow_cast-result c = let u = sums c.args.self.now c.requires.ready c.counts-totals.result c.counts-totals.ensures.counted in
    omega (arith, u.accepts, u.some, u.finds_busy, u.some_busy, u.refuses, u.some_refused, u.chains, u.ends, u.order)

pub overflow_add-result : goal.overflow_add-result
overflow_add-result c = let u = sums c.args.self.now c.requires.ready c.counts-totals.result c.counts-totals.ensures.counted in
    omega (arith, u.accepts, u.some, u.finds_busy, u.some_busy, u.refuses, u.some_refused, u.chains, u.ends, u.order)

pub overflow_add-result-2 : goal.overflow_add-result-2
overflow_add-result-2 c = let u = sums c.args.self.now c.requires.ready c.counts-totals.result c.counts-totals.ensures.counted in
    omega (arith, u.accepts, u.some, u.finds_busy, u.some_busy, u.refuses, u.some_refused, u.chains, u.ends, u.order)

pub overflow_add-result-3 : goal.overflow_add-result-3
overflow_add-result-3 c = let u = sums c.args.self.now c.requires.ready c.counts-totals.result c.counts-totals.ensures.counted in
    omega (arith, u.refuses, u.some_refused)

pub overflow_sub-result : goal.overflow_sub-result
overflow_sub-result c = let u = sums c.args.self.now c.requires.ready c.counts-totals.result c.counts-totals.ensures.counted in
    omega (arith, u.accepts, u.some, u.finds_busy, u.some_busy, u.refuses, u.some_refused, u.chains, u.ends, u.order)

pub returns : goal.returns
returns c = λ s m few.
    let e = c.args.self.now in
    let u = sums e (s, m, few) c.counts-totals.result c.counts-totals.ensures.counted in
    let delayed : c.len.result ≡ length s.table.entries = c.len.ensures.entries ∙ ap (λ (t : DelayTable). length t.entries) m.table in
    λ i. record {
      accepted = u.accepts i;
      chained = u.chains i;
      executed = u.ends i;
      busy = u.finds_busy i;
      refused = u.refuses i;
      delayed = delayed i;
      waiting = u.accepts i - u.ends i;
    }
