use Rattle.wq_machine.proofs.Common.{rules, tests, YieldsList-from_slice, items_from_extend, YieldsList-from_filter_map, begun_by}
use Rattle.wq_machine.proofs.machine.Core.begun.Goals as goal

pub returns : goal.returns
returns c =
    let items = items_from_extend c.extend.result c.extend.ensures.ran
    (YieldsList-from_filter_map _ begun_by (YieldsList-from_slice c.deref.result.now cc) c.filter_map.ensures.closure (λ x r q k. search (rules, tests))) in
    search rules
