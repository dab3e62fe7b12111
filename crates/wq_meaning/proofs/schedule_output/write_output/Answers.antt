use Rattle.std.proofs.lemmas.Result.{on_ok_weaker}
use Rattle.wq_meaning.proofs.Common.{arith, ◌∙◌, ap, sym, ◌<◌, List, Layout, length, get_or, string_bytes, subst, Turn, GivesBehind}
use Rattle.std.proofs.Math.ListN.{drop_of_length-le}
use Rattle.wq_core.specs.declared.step.Seat.TheVariants.{Sender}
use Rattle.wq_core.specs.declared.step.Step.TheVariants.{Hold}
use Rattle.wq_text.specs.Turns.{PlacedIn}
use Rattle.wq_meaning.proofs.ScheduleLines.{continues_opening, continues_behind, output_whole}
use Rattle.wq_meaning.proofs.schedule_output.write_output.Goals as goal

pub loop-seat-preserved : goal.loop-seat-preserved
loop-seat-preserved c =
    let turns : List Turn = c.args.schedule.now.turns.items in
    let lt : c.loop-seat.seat-index < length turns = omega (arith, ap length c.turns-seat-items.ensures.value) in
    let P : List Turn → Type 0 = λ ts. GivesBehind c.loop-seat.core (get_or ts c.loop-seat.seat-index (Sender 0, Hold 0)) c.make_turn.new.core
    (string_bytes c.loop-seat.out) (string_bytes c.make_turn.new.out) in
    record {
      same = c.in_ok-make_turn.ensures.same ∙ c.layout-layout.ensures.numbers;
      told = continues_behind c.args.schedule.now.layout turns c.loop-seat.seat-index (Sender 0, Hold 0) c.loop-seat.core c.make_turn.new.core _ _ lt
          (subst P c.turns-seat-items.ensures.value c.in_ok-make_turn.ensures.gives) c.loop-seat.invariant.told;
    }

pub write_ending-requires : goal.write_ending-requires
write_ending-requires c = record { same = c.loop-seat.invariant.same ∙ sym c.layout-layout.ensures.numbers }

pub returns : goal.returns
returns c =
    let turns : List Turn = c.args.schedule.now.turns.items in
    on_ok_weaker c.write_ending.result (λ wrote. output_whole c.args.schedule.now.layout turns _ c.loop-seat.core _ _
    (drop_of_length-le turns (omega (arith, ap length c.turns-seat-items.ensures.value))) c.loop-seat.invariant.told wrote) c.write_ending.ensures.written

pub make_turn-requires : goal.make_turn-requires
make_turn-requires c =
    let turn : Turn = get_or c.turns-seat-items.result.now c.loop-seat.seat-index (Sender 0, Hold 0) in
    let placed : PlacedIn c.args.schedule.now.layout turn =
    c.turns-seat-items.ensures.fits c.loop-seat.seat-index (Sender 0, Hold 0) c.loop-seat-test.true in
    let numbers = sym c.layout-layout.ensures.numbers in
    record { same = c.loop-seat.invariant.same ∙ numbers; placed = subst (λ (l : Layout). PlacedIn l turn) numbers placed }

pub loop-seat-init : goal.loop-seat-init
loop-seat-init c = record {
  same = ap (λ m. m.layout) c.requires.new;
  told = continues_opening c.args.schedule.now.layout _ _ _ c.requires.new c.requires.empty;
}
