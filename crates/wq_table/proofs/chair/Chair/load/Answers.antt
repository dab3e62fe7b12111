use Rattle.std.proofs.Common.{rules, refl, None}
use Rattle.wq_table.proofs.ValueRule.{goes_values}
use Rattle.wq_table.proofs.SlotTold.{seat_is, room, slots_are, told_values, sits_step}
use Rattle.wq_table.proofs.chair.Chair.load.Goals as goal

pub load-requires : goal.load-requires
load-requires g c = let s = c.self.inside in let it = c.args.self.now in let sits = c.self.invariant in let at = g.P.WhichPart.at in (
  search rules,
  room s it sits c.self.view_is at c.deref.result.now c.args.place c.deref.ensures c.requires.place,
  goes_values _ _ _ at it.first it.others it.hand s.seat.me (g.K.Kind.step c.args.place 0) c.args.place _ _ None
      (seat_is s it sits c.self.view_is) c.requires.performs (rw (slots_are s it sits c.self.view_is c.deref.result.now c.deref.ensures) c.requires.goes),
)

pub returns : goal.returns
returns g c = let s = c.self.inside in let it = c.args.self.now in
    told_values s.layout g.P.WhichPart.at c.deref.result.now.shared.table_id.slots
    (g.K.Kind.step c.args.place 0) None c.load.result it s.seat.me c.load.new.seat.me c.load.new.seat.table_id
    (seat_is s it c.self.invariant c.self.view_is) (slots_are s it c.self.invariant c.self.view_is c.deref.result.now c.deref.ensures)
    (search rules) c.load.ensures.2

pub invariant_of-self : goal.invariant_of-self
invariant_of-self g c = let s = c.self.inside in
    sits_step g.P.WhichPart.at c.deref.result.now.shared.table_id.slots
    (g.K.Kind.step c.args.place 0) None c.load.result c.load.new.seat.me s _ c.self.invariant c.load.ensures.2 refl refl refl (search rules) refl
