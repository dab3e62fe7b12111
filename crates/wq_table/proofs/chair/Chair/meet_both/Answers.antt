use Rattle.wq_table.proofs.Common.{rules, ap, sym, refl, ◌∙◌, ValueStanding}
use Rattle.wq_table.proofs.Opened.{offs_slots}
use Rattle.wq_table.proofs.Meetings.{meets_slots}
use Rattle.wq_table.proofs.SlotTold.{seat_is, slots_are, done_in_words, sits_known}
use Rattle.wq_table.proofs.SlotMetAll.{mine_view, their_view, third_view, met_all}
use Rattle.wq_table.proofs.chair.Chair.meet_both.Goals as goal

pub take_in-requires-clause-other : goal.take_in-requires-clause-other
take_in-requires-clause-other g c = let q = λ (v : ValueStanding _). v.queue in
    ap q c.other.view_is ∙ (sym c.requires.other ∙ (sym (ap q c.self.view_is) ∙ (c.self.invariant.seated ∙ ap (λ t. t.shared.table_id) (sym c.deref.ensures))))

pub take_in-requires-2-clause-other : goal.take_in-requires-2-clause-other
take_in-requires-2-clause-other g c = let q = λ (v : ValueStanding _). v.queue in
    ap q c.third.view_is ∙ (sym c.requires.third ∙ (sym (ap q c.self.view_is) ∙ (c.self.invariant.seated ∙ ap (λ t. t.shared.table_id) (sym c.deref.ensures))))

pub load-requires : goal.load-requires
load-requires g c = (search rules, done_in_words c.self.inside c.self.invariant _ _ c.deref.ensures c.done_place.ensures.place, meets_slots _ _ _ _ _)

pub split_seat-requires : goal.split_seat-requires
split_seat-requires g c = (search rules, search rules, offs_slots _ _ _)

pub split_seat-requires-2 : goal.split_seat-requires-2
split_seat-requires-2 g c = (search rules, search rules, offs_slots _ _ _)

pub returns : goal.returns
returns g c =
    let has = seat_is c.self.inside c.args.self.now c.self.invariant c.self.view_is in
    let other_has = seat_is c.other.inside c.args.other.now c.other.invariant c.other.view_is in
    let third_has = seat_is c.third.inside c.args.third.now c.third.invariant c.third.view_is in record {
      all = met_all c.args.self.now c.args.other.now c.args.third.now c.self.inside.seat.me
          c.other.inside.seat.me c.third.inside.seat.me c.take_in.new.seat.me c.take_in-2.new.seat.me c.load.new.seat.me has other_has third_has
          c.requires.alone.0 c.requires.alone.1 c.take_in.ensures.parts c.take_in-2.ensures.parts _
          (slots_are c.self.inside c.args.self.now c.self.invariant c.self.view_is _ c.deref.ensures) c.load.ensures.2
          c.split_seat.new.seat.me c.split_seat-2.new.seat.me c.split_seat-2.result.me c.split_seat.result.me
          c.split_seat.ensures.2 c.split_seat.ensures.4 c.split_seat-2.ensures.2 c.split_seat-2.ensures.4
          _ _ _ c.self.inside.layout c.other.inside.layout c.third.inside.layout c.requires.empty.0 c.requires.empty.1 (search rules) (search rules)
          (search rules) c.requires.other c.requires.third;
    }

pub invariant_of-self : goal.invariant_of-self
invariant_of-self g c =
    let has = seat_is c.self.inside c.args.self.now c.self.invariant c.self.view_is in
    let other_has = seat_is c.other.inside c.args.other.now c.other.invariant c.other.view_is in
    let third_has = seat_is c.third.inside c.args.third.now c.third.invariant c.third.view_is in
    sits_known c.load.ensures.2.machine c.load.ensures.2.brought c.args.self.now c.self.inside _ c.self.invariant c.self.view_is
    refl refl refl (search rules) (mine_view c.args.self.now c.args.other.now c.args.third.now c.self.inside.seat.me
    c.other.inside.seat.me c.third.inside.seat.me c.take_in.new.seat.me c.take_in-2.new.seat.me c.load.new.seat.me has other_has third_has
    c.requires.alone.0 c.requires.alone.1 c.take_in.ensures.parts c.take_in-2.ensures.parts _
    (slots_are c.self.inside c.args.self.now c.self.invariant c.self.view_is _ c.deref.ensures) c.load.ensures.2
    c.split_seat.new.seat.me c.split_seat-2.new.seat.me c.split_seat-2.result.me c.split_seat.result.me
    c.split_seat.ensures.2 c.split_seat.ensures.4 c.split_seat-2.ensures.2 c.split_seat-2.ensures.4)

pub invariant_of-other : goal.invariant_of-other
invariant_of-other g c =
    let has = seat_is c.self.inside c.args.self.now c.self.invariant c.self.view_is in
    let other_has = seat_is c.other.inside c.args.other.now c.other.invariant c.other.view_is in
    let third_has = seat_is c.third.inside c.args.third.now c.third.invariant c.third.view_is in
    sits_known c.load.ensures.2.machine c.load.ensures.2.brought c.args.other.now c.other.inside _ c.other.invariant c.other.view_is
    refl refl refl (search rules) (their_view c.args.self.now c.args.other.now c.args.third.now c.self.inside.seat.me
    c.other.inside.seat.me c.third.inside.seat.me c.take_in.new.seat.me c.take_in-2.new.seat.me c.load.new.seat.me has other_has third_has
    c.requires.alone.0 c.requires.alone.1 c.take_in.ensures.parts c.take_in-2.ensures.parts _
    (slots_are c.self.inside c.args.self.now c.self.invariant c.self.view_is _ c.deref.ensures) c.load.ensures.2
    c.split_seat.new.seat.me c.split_seat-2.new.seat.me c.split_seat-2.result.me c.split_seat.result.me
    c.split_seat.ensures.2 c.split_seat.ensures.4 c.split_seat-2.ensures.2 c.split_seat-2.ensures.4)

pub invariant_of-third : goal.invariant_of-third
invariant_of-third g c =
    let has = seat_is c.self.inside c.args.self.now c.self.invariant c.self.view_is in
    let other_has = seat_is c.other.inside c.args.other.now c.other.invariant c.other.view_is in
    let third_has = seat_is c.third.inside c.args.third.now c.third.invariant c.third.view_is in
    sits_known c.load.ensures.2.machine c.load.ensures.2.brought c.args.third.now c.third.inside _ c.third.invariant c.third.view_is
    refl refl refl (search rules) (third_view c.args.self.now c.args.other.now c.args.third.now c.self.inside.seat.me
    c.other.inside.seat.me c.third.inside.seat.me c.take_in.new.seat.me c.take_in-2.new.seat.me c.load.new.seat.me has other_has third_has
    c.requires.alone.0 c.requires.alone.1 c.take_in.ensures.parts c.take_in-2.ensures.parts _
    (slots_are c.self.inside c.args.self.now c.self.invariant c.self.view_is _ c.deref.ensures) c.load.ensures.2
    c.split_seat.new.seat.me c.split_seat-2.new.seat.me c.split_seat-2.result.me c.split_seat.result.me
    c.split_seat.ensures.2 c.split_seat.ensures.4 c.split_seat-2.ensures.2 c.split_seat-2.ensures.4)
