use Rattle.wq_calls.proofs.Common.{refl, inr, sym, subst, ◌∙◌, learns_step, Row}
use Rattle.wq_table.proofs.Learns.{learns_none}
use Rattle.wq_calls.specs.Sits.{HasFirst}
use Rattle.wq_calls.proofs.OwnerTells.{makes_stands}
use Rattle.wq_calls.proofs.Linking.{load_tells, load_stage}
use Rattle.wq_calls.proofs.Hanging.{first_of_row, first_walks, first_number, first_only, found_small, found_some, first_left}
use Rattle.wq_calls.proofs.Taking.{follows_on, follows_none}
use Rattle.wq_calls.proofs.OwnerHands.{load_hand}
use Rattle.wq_calls.proofs.owner_seat.without_first.Goals as goal

pub returns-then-row-eq1 : goal.returns-then-row-eq1
returns-then-row-eq1 g c = let p = c.args.chair.now.first.part in record {
  learns = learns_none 0 _;
  follows = follows_none p;
  stands = c.requires.stands;
  stage = refl;
  first =
      subst (λ (r : Row). HasFirst c.args.row.front r p) (sym c.empty.ensures) (first_only c.args.row p c.requires.has_row c.requires.some c.if-row-eq1.true);
  hand = refl;
}

pub walk-requires-clause-number : goal.walk-requires-clause-number
walk-requires-clause-number g c = first_number c.args.row c.args.chair.now.first.part c.requires.has_row c.requires.some c.requires.stands

pub walk-requires-clause-next : goal.walk-requires-clause-next
walk-requires-clause-next g c = first_walks c.args.row c.args.chair.now.first.part c.requires.has_row c.requires.some

pub number_at-requires : goal.number_at-requires
number_at-requires g c = let p = c.args.chair.now.first.part in
    found_small c.args.row p c.requires.has_row c.requires.some c.if-row-eq1.false c.walk.result c.walk.new.self.first.part
    c.walk.ensures.step.steps.moves.makes c.requires.stands

pub unreachable-requires : goal.unreachable-requires
unreachable-requires g c = let p = c.args.chair.now.first.part in
    found_some c.args.row p c.requires.has_row c.requires.some c.if-row-eq1.false c.walk.result
    c.walk.new.self.first.part c.walk.ensures.step.steps.moves.makes
    (sym c.number_at.ensures.number ∙ c.in-None.is)

pub returns : goal.returns
returns g c =
    let row = c.args.row in let p = c.args.chair.now.first.part in let q = c.walk.new.self.first.part in
    let makes = c.walk.ensures.step.steps.moves.makes in
    let front = first_of_row row p c.requires.has_row c.requires.some in record {
      learns = inr (learns_step 0 _ _ _ _ _ c.walk.ensures.step);
      follows = follows_on p p q (follows_none p) (load_tells c.walk.result p q _ _ front.1 makes);
      stands = makes_stands _ _ p q makes;
      stage = load_stage c.walk.result p q _ _ front.1 makes ∙ sym front.1;
      first = first_left row p c.requires.has_row c.requires.some c.if-row-eq1.false c.walk.result q makes c.in-Some.front
          (sym c.number_at.ensures.number ∙ c.in-Some.is);
      hand = load_hand c.walk.result _ _ _ _ front.1 c.walk.ensures.step;
    }
