use Rattle.atomic_table.specs.Seated.{TableId}
use Rattle.wq_pool.proofs.Common.{◌≡◌, ◌<◌, sym, ap, ◌∙◌, subst, rules, SlotsState, TurnState}
use Rattle.wq_pool.proofs.Hands.{lays_filled}
use Rattle.wq_pool.proofs.slots.QueueSlots.lay_down.Goals as goal

pub swap-requires : goal.swap-requires
swap-requires g c =
    let w = c.worked in
    let same : w.inside.seat.table_id ≡ c.self.inside.table.shared.table_id =
    ap (λ (t : TurnState _). t.slots) w.view_is ∙ (c.requires ∙ sym (ap (λ (s : SlotsState _). s.id) c.self.view_is)) in (
      search rules,
      subst (λ (t : TableId). w.inside.queue < t.words) same w.invariant.within,
      lays_filled g.K.Station.state g.K.Station.deals _ _ _ _ w.inside.seat.me c.exchange.new.seat.me _ w.invariant.taken w.invariant.worker_is
          c.exchange.ensures.3,
    )
