use Rattle.wq_table.proofs.Common.{rules, ap, sym, refl, ◌∙◌, ValueStanding}
use Rattle.wq_table.proofs.Opened.{offs_slots}
use Rattle.wq_table.proofs.Meetings.{boths_slots, meets_slots}
use Rattle.wq_table.proofs.SlotTold.{seat_is, slots_are, done_in_words}
use Rattle.wq_table.proofs.SlotJoined.{joined_slots, sits_joined}
use Rattle.wq_table.proofs.chair.Chair.join.Goals as goal

pub split_seat-mine-requires : goal.split_seat-mine-requires
split_seat-mine-requires g c = (search rules, search rules, offs_slots _ _ _)

pub join_seat-requires : goal.join_seat-requires
join_seat-requires g c = let q = λ (v : ValueStanding _). v.queue in
    let mine = c.self.invariant.seated ∙ ap (λ t. t.shared.table_id) (sym c.deref.ensures) in
    let same = ap q c.other.view_is ∙ (c.requires.queue ∙ (sym (ap q c.self.view_is) ∙ mine)) in
    (search rules, same, search rules, search rules, boths_slots _ _ _ _ _)

pub join_seat-requires-2 : goal.join_seat-requires-2
join_seat-requires-2 g c = (search rules, search rules, search rules, search rules, boths_slots _ _ _ _ _)

pub load-requires : goal.load-requires
load-requires g c = (search rules, done_in_words c.self.inside c.self.invariant _ _ c.deref.ensures c.done_place.ensures.place, meets_slots _ _ _ _ _)

pub returns : goal.returns
returns g c = record {
  joined = joined_slots c.args.self c.args.other c.self.inside.seat.me c.other.inside.seat.me c.split_seat-mine.new.seat.me c.split_seat-mine.result.me
      c.join_seat.new.seat.me c.join_seat-2.new.seat.me c.load.new.seat.me (seat_is c.self.inside c.args.self c.self.invariant c.self.view_is)
      (seat_is c.other.inside c.args.other c.other.invariant c.other.view_is) c.requires.alone c.split_seat-mine.ensures.2 c.split_seat-mine.ensures.4
      c.join_seat.ensures.2 c.join_seat-2.ensures.2 _ (slots_are c.self.inside c.args.self c.self.invariant c.self.view_is _ c.deref.ensures)
      c.load.ensures.2 _ _ (search rules);
}

pub invariant_of-result : goal.invariant_of-result
invariant_of-result g c = sits_joined c.args.self c.args.other c.self.inside.seat.me c.other.inside.seat.me c.split_seat-mine.new.seat.me
    c.split_seat-mine.result.me c.join_seat.new.seat.me c.join_seat-2.new.seat.me c.load.new.seat.me
    (seat_is c.self.inside c.args.self c.self.invariant c.self.view_is) (seat_is c.other.inside c.args.other c.other.invariant c.other.view_is)
    c.requires.alone c.split_seat-mine.ensures.2 c.split_seat-mine.ensures.4 c.join_seat.ensures.2 c.join_seat-2.ensures.2 _
    (slots_are c.self.inside c.args.self c.self.invariant c.self.view_is _ c.deref.ensures) c.load.ensures.2
    c.self.inside c.other.inside _ c.self.invariant c.self.view_is c.other.invariant c.other.view_is c.requires.queue refl refl refl (search rules) refl
