use Rattle.wq_core.specs.Machine.{opening}
use Rattle.wq_text.specs.Turns.{PlacedIn}
use Rattle.wq_meaning.proofs.Common.{arith, refl, sym, ◌∙◌, ap, ◌<◌, List, [], Layout, ◌++◌, length, get_or, subst, Turn}
use Rattle.std.proofs.Math.ListN.{drop_of_length-le}
use Rattle.wq_core.specs.declared.step.Seat.TheVariants.{Sender}
use Rattle.wq_core.specs.declared.step.Step.TheVariants.{Hold}
use Rattle.wq_meaning.specs.ScheduleHistory.{Passes}
use Rattle.wq_meaning.proofs.ScheduleLines.{continues_opening, continues_behind, given_whole, written, all_pass}
use Rattle.wq_meaning.proofs.schedule_history.replayed.Goals as goal

pub loop-seat-preserved : goal.loop-seat-preserved
loop-seat-preserved c =
    let turns : List Turn = c.args.schedule.now.turns.items in
    let lt : c.loop-seat.seat-index < length turns = omega (arith, ap length c.turns-seat-items.ensures.value) in
    let P : List Turn → Type 0 = λ ts. Passes c.loop-seat.core (get_or ts c.loop-seat.seat-index (Sender 0, Hold 0)) c.try_step.new.core in
    let passes = written c.loop-seat.core (get_or turns c.loop-seat.seat-index (Sender 0, Hold 0)) c.try_step.new.core
    (subst P c.turns-seat-items.ensures.value c.in_ok-try_step.ensures.passes) in
    let before = c.loop-seat.invariant.told in
    record {
      same = c.in_ok-try_step.ensures.same ∙ c.loop-seat.invariant.same;
      told = (
        before.0 ++ passes.0,
        continues_behind c.args.schedule.now.layout turns c.loop-seat.seat-index (Sender 0, Hold 0) c.loop-seat.core
            c.try_step.new.core before.0 (before.0 ++ passes.0) lt (passes.0, passes.1, refl) before.1,
      );
    }

pub returns-clause-passed : goal.returns-clause-passed
returns-clause-passed c =
    let turns : List Turn = c.args.schedule.now.turns.items in
    let before = c.loop-seat.invariant.told in
    all_pass turns (opening c.args.schedule.now.layout) c.loop-seat.core before.0
    (given_whole c.args.schedule.now.layout turns _ c.loop-seat.core before.0
    (drop_of_length-le turns (omega (arith, ap length c.turns-seat-items.ensures.value))) before.1)

pub try_step-requires : goal.try_step-requires
try_step-requires c =
    let turn : Turn = get_or c.turns-seat-items.result.now c.loop-seat.seat-index (Sender 0, Hold 0) in
    subst (λ (l : Layout). PlacedIn l turn) (sym c.loop-seat.invariant.same)
    (c.turns-seat-items.ensures.fits c.loop-seat.seat-index (Sender 0, Hold 0) c.loop-seat-test.true)

pub loop-seat-init : goal.loop-seat-init
loop-seat-init c =
    let opened = c.in_ok-core.ensures.opening ∙ ap opening c.layout.ensures.numbers in
    record { same = ap (λ m. m.layout) opened; told = ([], continues_opening c.args.schedule.now.layout _ _ _ opened refl) }
