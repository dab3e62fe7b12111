use Rattle.std.proofs.lemmas.Fn.{filter_same}
use Rattle.wq_delay.proofs.Common.{arith, rules, vec_capacity, stands}
use Rattle.wq_delay.proofs.Tidied.{tidied_same, tidied_early, tidied_room}
use Rattle.wq_delay.proofs.timetable.tidy.Goals as goal

pub returns-clause-same : goal.returns-clause-same
returns-clause-same c =
    tidied_same c.args.places.now c.args.row.now.items c.retain.new.self.items
    (filter_same _ (stands c.args.places.now) _ (λ x b f k. search rules) _ _ c.retain.ensures.filtered)

pub returns-clause-early : goal.returns-clause-early
returns-clause-early c =
    tidied_early c.args.places.now c.args.row.now.items c.retain.new.self.items
    (filter_same _ (stands c.args.places.now) _ (λ x b f k. search rules) _ _ c.retain.ensures.filtered)

pub returns-clause-room : goal.returns-clause-room
returns-clause-room c =
    tidied_room c.args.places.now c.args.row.now.items c.retain.new.self.items
    (filter_same _ (stands c.args.places.now) _ (λ x b f k. search rules) _ _ c.retain.ensures.filtered) (vec_capacity c.retain.new.self)
    (omega (arith, c.requires.enough, c.retain.ensures.capacity))
