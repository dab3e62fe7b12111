use Rattle.wq_delay.proofs.Common.{◌≤◌, sym, subst, arith, Rows, remaining}
use Rattle.wq_delay.proofs.Leading.{gathering_start, start_ahead}
use Rattle.wq_delay.proofs.Led.{timetable_led}
use Rattle.wq_delay.proofs.Earliest.{earliest_start, earliest_led}
use Rattle.wq_delay.proofs.timetable.Timetable.lead_on.Goals as goal

pub look_on-looked-requires-clause-gathering : goal.look_on-looked-requires-clause-gathering
look_on-looked-requires-clause-gathering c =
    gathering_start c.self.invariant.0 c.args.now (subst (λ (z : Rows). z.tick ≤ c.args.now) (sym c.self.view_is) c.requires) c.as_slice-places.ensures.value
    c.tidy-self-inside.new.row.items c.tidy-self-inside.ensures.same

pub look_on-looked-requires-clause-ahead : goal.look_on-looked-requires-clause-ahead
look_on-looked-requires-clause-ahead c =
    start_ahead c.self.invariant.0 c.args.now (subst (λ (z : Rows). z.tick ≤ c.args.now) (sym c.self.view_is) c.requires) c.as_slice-places.ensures.value
    c.tidy-self-inside.new.row.items c.tidy-self-inside.ensures.same

pub look_on-looked-requires-clause-earliest : goal.look_on-looked-requires-clause-earliest
look_on-looked-requires-clause-earliest c =
    earliest_start c.as_slice-places.ensures.value c.self.invariant.1 (remaining c.as_slice-places.result.now c.tidy-self-inside.new.row.items)
    (look_on-looked-requires-clause-ahead c)

pub invariant_of-self : goal.invariant_of-self
invariant_of-self c =
    let tidied = c.tidy-self-inside in let looked = c.look_on-looked.ensures in let sort = c.sort_behind.ensures in (
      timetable_led c.self.invariant.0 c.args.now (subst (λ (z : Rows). z.tick ≤ c.args.now) (sym c.self.view_is) c.requires)
          c.as_slice-places.ensures.value tidied.new.row.items tidied.ensures.same looked.grows looked.gathering looked.done
          (omega (arith, c.len-late.ensures, tidied.new.row.ok.0)) sort.kept sort.moved sort.sorted (omega (arith, looked.room.enough, sort.capacity))
          tidied.ensures.passed tidied.ensures.low (tidied.ensures.early c.self.inside.tick c.self.invariant.0.early),
      earliest_led c.as_slice-places.ensures.value (remaining c.as_slice-places.result.now c.look_on-looked.new.row.items) looked.gathering
          looked.earliest,
    )
