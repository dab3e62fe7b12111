use Rattle.wq_pool.proofs.Common.{◌≡◌, List, map, length, Some, ap, ◌∙◌, arith, rules, length-map, id_of}
use Rattle.wq_pool.proofs.Kept.{opens}
use Rattle.wq_pool.proofs.Hands.{zeros}
use Rattle.wq_pool.proofs.slots.QueueSlots.new.Goals as goal

pub new-requires : goal.new-requires
new-requires g c =
    rw (c.of-handed.ensures)
    (opens g.K.Station.state g.K.Station.deals c.args.queues.items _ _
    (c.as_slice.ensures.value ∙ zeros _ _ (length c.args.queues.items) (c.in_ok-words.ensures.items_if_clones_equal (λ y h. h)) (search rules))
    c.in_ok-slots.ensures)

pub invariant_of-result : goal.invariant_of-result
invariant_of-result g c =
    let e = c.in-Ok.ensures.ok in let queues = c.args.queues.items in let state = g.K.Station.state in
    let items : c.in-Ok.table.shared.key.value.items ≡ queues = rw (e.5, c.of-handed.ensures) in
    let count : length queues ≡ c.len-count.result = omega (arith, c.len-count.ensures, c.args.queues.ok.0) in
    record {
      words_count = omega (arith, e.0, c.as_slice.ensures.len, c.in_ok-words.ensures.len);
      slots_count = e.1 ∙ (ap (λ (slots : List _). length slots) c.in_ok-slots.ensures ∙ (length-map queues Some ∙ count));
      count_is = length-map c.in-Ok.table.shared.key.value.items (id_of state)
          ∙ (ap (λ (workers : List _). length workers) items ∙ count);
    }

pub returns-in-Ok : goal.returns-in-Ok
returns-in-Ok g c =
    let items : c.in-Ok.table.shared.key.value.items ≡ c.args.queues.items = rw (c.in-Ok.ensures.ok.5, c.of-handed.ensures) in
    record { workers = ap (λ (ws : List _). map (id_of g.K.Station.state) ws) items; states = items }
