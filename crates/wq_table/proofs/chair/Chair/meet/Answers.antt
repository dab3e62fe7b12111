use Rattle.wq_table.proofs.Common.{rules, ap, sym, refl, ◌∙◌, ValueStanding}
use Rattle.wq_table.proofs.Opened.{offs_slots}
use Rattle.wq_table.proofs.Meetings.{meets_slots}
use Rattle.wq_table.proofs.SlotTold.{seat_is, slots_are, done_in_words}
use Rattle.wq_table.proofs.SlotMet.{met_slots, sits_met, sits_cut}
use Rattle.wq_table.proofs.chair.Chair.meet.Goals as goal

pub take_in-requires-clause-other : goal.take_in-requires-clause-other
take_in-requires-clause-other g c = let q = λ (v : ValueStanding _). v.queue in
    ap q c.other.view_is ∙ (sym c.requires.queue ∙ (sym (ap q c.self.view_is) ∙ (c.self.invariant.seated ∙ ap (λ t. t.shared.table_id) (sym c.deref.ensures))))

pub load-requires : goal.load-requires
load-requires g c = (search rules, done_in_words c.self.inside c.self.invariant _ _ c.deref.ensures c.done_place.ensures.place, meets_slots _ _ _ _ _)

pub split_seat-requires : goal.split_seat-requires
split_seat-requires g c = (search rules, search rules, offs_slots _ _ _)

pub returns : goal.returns
returns g c =
    let has = seat_is c.self.inside c.args.self.now c.self.invariant c.self.view_is in
    let other_has = seat_is c.other.inside c.args.other.now c.other.invariant c.other.view_is in record {
      met = met_slots c.args.self.now c.args.other.now c.self.inside.seat.me c.other.inside.seat.me c.take_in.new.seat.me c.load.new.seat.me
          has other_has c.requires.alone c.take_in.ensures.parts _
          (slots_are c.self.inside c.args.self.now c.self.invariant c.self.view_is _ c.deref.ensures)
          c.load.ensures.2 _ _ c.self.inside.layout c.other.inside.layout
          c.split_seat.new.seat.me c.split_seat.result.me c.requires.empty c.split_seat.ensures.2 c.split_seat.ensures.4
          (search rules) (search rules) c.requires.queue;
    }

pub invariant_of-self : goal.invariant_of-self
invariant_of-self g c =
    let has = seat_is c.self.inside c.args.self.now c.self.invariant c.self.view_is in
    let other_has = seat_is c.other.inside c.args.other.now c.other.invariant c.other.view_is in
    sits_met c.args.self.now c.args.other.now c.self.inside.seat.me c.other.inside.seat.me c.take_in.new.seat.me c.load.new.seat.me
    has other_has c.requires.alone c.take_in.ensures.parts _
    (slots_are c.self.inside c.args.self.now c.self.invariant c.self.view_is _ c.deref.ensures) c.load.ensures.2
    c.split_seat.new.seat.me c.self.inside _ c.split_seat.ensures.2 c.self.invariant c.self.view_is refl refl refl (search rules) refl

pub invariant_of-other : goal.invariant_of-other
invariant_of-other g c =
    let has = seat_is c.self.inside c.args.self.now c.self.invariant c.self.view_is in
    let other_has = seat_is c.other.inside c.args.other.now c.other.invariant c.other.view_is in
    sits_cut c.args.self.now c.args.other.now c.self.inside.seat.me c.other.inside.seat.me c.take_in.new.seat.me c.load.new.seat.me
    has other_has c.requires.alone c.take_in.ensures.parts _
    (slots_are c.self.inside c.args.self.now c.self.invariant c.self.view_is _ c.deref.ensures) c.load.ensures.2
    c.split_seat.result.me c.other.inside _ c.split_seat.ensures.4 c.other.invariant c.other.view_is refl refl refl (search rules) refl
