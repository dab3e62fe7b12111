use Rattle.atomic_table.specs.Seated.{TableId}
use Rattle.wq_pool.proofs.Common.{◌≡◌, ◌<◌, map, length, slice_get, Some, sym, refl, ap, ◌∙◌, subst, rules, id_of, handed_of, SlotsState, GoesOnAt, IsHandedAt}
use Rattle.wq_pool.proofs.Kept.{comes_allowed, picks_allowed}
use Rattle.wq_pool.proofs.Hands.{has_picked, has_taken, has_in_hand, front_of}
use Rattle.wq_pool.proofs.slots.QueueSlots.pick_up.Goals as goal

pub load_new_seat-seat-requires : goal.load_new_seat-seat-requires
load_new_seat-seat-requires g c =
    let t = c.self.inside.table.shared in
    let low : c.args.queue < length (map (id_of g.K.Station.state) t.key.value.items) = rw (ap (λ (s : SlotsState _). s.workers) c.self.view_is) c.requires in
    (subst (λ n. c.args.queue < n) (c.self.invariant.count_is ∙ sym c.self.invariant.words_count) low, comes_allowed g.K.Station.state g.K.Station.deals _ _ _)

pub compare_exchange-requires : goal.compare_exchange-requires
compare_exchange-requires g c =
    let t = c.self.inside.table.shared in
    let low : c.args.queue < length (map (id_of g.K.Station.state) t.key.value.items) = rw (ap (λ (s : SlotsState _). s.workers) c.self.view_is) c.requires in (
      c.load_new_seat-seat.ensures.0,
      subst (λ n. c.args.queue < n) (c.self.invariant.count_is ∙ sym c.self.invariant.words_count) low,
      picks_allowed g.K.Station.state g.K.Station.deals _ _ _ _ _ low (λ i. (c.load_new_seat-seat.ensures.2 i, c.load_new_seat-seat.ensures.1 i)),
    )

pub exchange-requires : goal.exchange-requires
exchange-requires g c =
    let has =
    has_picked g.K.Station.state g.K.Station.deals _ _ _ _ _ (search rules) (λ i. (c.load_new_seat-seat.ensures.2 i, c.load_new_seat-seat.ensures.1 i))
    c.compare_exchange.ensures.2 in
    (c.compare_exchange.ensures.0 ∙ c.load_new_seat-seat.ensures.0, (_, front_of _ _ _ has.2))

pub invariant_of-turn : goal.invariant_of-turn
invariant_of-turn g c =
    let k = g.K.Station in let t = c.self.inside.table.shared in let e = c.exchange.ensures in let me = c.compare_exchange.new.seat.me in
    let at : c.exchange.new.seat.table_id ≡ t.table_id = e.0 ∙ (c.compare_exchange.ensures.0 ∙ c.load_new_seat-seat.ensures.0) in
    let low : c.args.queue < length (map (id_of k.state) t.key.value.items) = rw (ap (λ (s : SlotsState _). s.workers) c.self.view_is) c.requires in
    let within : c.args.queue < t.table_id.words = subst (λ n. c.args.queue < n) (c.self.invariant.count_is ∙ sym c.self.invariant.words_count) low in
    let has =
    has_picked k.state k.deals _ _ _ _ me (search rules) (λ i. (c.load_new_seat-seat.ensures.2 i, c.load_new_seat-seat.ensures.1 i))
    c.compare_exchange.ensures.2 in
    has_in_hand k.state k.deals _ c.exchange.new.seat.table_id _ me c.exchange.new.seat.me has.1 c.of.result has.0 has.2 e.3
    (subst (λ (id : TableId). c.args.queue < id.words) (sym at) within)
    (has_taken k.state k.deals _ _ me has.1 c.in-Some.served c.of.result has.2 has.3 c.in-Some.ensures.2 c.of.ensures.same)

pub returns : goal.returns
returns g c =
    let k = g.K.Station in let e = c.exchange.ensures in let me = c.compare_exchange.new.seat.me in
    let has =
    has_picked k.state k.deals _ _ _ _ me (search rules) (λ i. (c.load_new_seat-seat.ensures.2 i, c.load_new_seat-seat.ensures.1 i))
    c.compare_exchange.ensures.2 in
    let is : IsHandedAt k.state k.deals (handed_of k.state c.self.inside.table.shared.key.value.items) c.args.queue c.of.result =
    has_taken k.state k.deals _ _ me has.1 c.in-Some.served c.of.result has.2 has.3 c.in-Some.ensures.2 c.of.ensures.same in
    record {
      queue = refl;
      slots = e.0 ∙ (c.compare_exchange.ensures.0 ∙ (c.load_new_seat-seat.ensures.0 ∙ ap (λ (s : SlotsState _). s.id) c.self.view_is));
      worker = subst (λ (s : SlotsState _). slice_get s.workers c.args.queue ≡ Some (id_of k.state c.of.result)) c.self.view_is is.worker_is;
      goes_on = subst (λ (s : SlotsState _). GoesOnAt k.state k.deals s.states c.args.queue c.of.result) c.self.view_is is.goes_on;
      idle = c.of.ensures.idle;
    }
