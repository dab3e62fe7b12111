use Rattle.std.proofs.Common.{refl, inr, arith}
use Rattle.wq_table.proofs.Learns.{learns_none, learns_step}
use Rattle.wq_calls.proofs.Waiting.{stands_walked}
use Rattle.wq_calls.proofs.OwnerTells.{makes_stands}
use Rattle.wq_calls.proofs.Hanging.{hang_none, hang_alone, hang_number, hang_next, hang_turns, hang_count, hang_stage, hang_tells, hangs}
use Rattle.wq_calls.proofs.Taking.{follows_on, follows_none, number_small}
use Rattle.wq_calls.proofs.OwnerHands.{same_hand}
use Rattle.wq_calls.proofs.owner_seat.hang.Goals as goal

pub returns-then-more-eq0 : goal.returns-then-more-eq0
returns-then-more-eq0 g c = record {
  learns = learns_none 0 _;
  follows = follows_none c.args.chair.now.first.part;
  stands = c.requires.stands;
  stage = refl;
  has_row = hang_none c.args.row c.args.more c.args.chair.now.first.part c.requires.stands c.requires.both c.if-more-eq0.true;
  count = omega (arith, c.if-more-eq0.true);
  hand = refl;
}

pub returns-then-row-eq0 : goal.returns-then-row-eq0
returns-then-row-eq0 g c = record {
  learns = learns_none 0 _;
  follows = follows_none c.args.chair.now.first.part;
  stands = c.requires.stands;
  stage = refl;
  has_row = hang_alone c.args.row c.args.more c.args.chair.now.first.part c.requires.stands c.requires.both c.if-row-eq0.true;
  count = omega (arith, c.if-row-eq0.true);
  hand = refl;
}

pub turn-requires-clause-number : goal.turn-requires-clause-number
turn-requires-clause-number g c =
    hang_number c.args.row c.args.more c.args.chair.now.first.part c.requires.stands c.requires.both c.if-row-eq0.false c.if-more-eq0.false

pub turn-requires-clause-next : goal.turn-requires-clause-next
turn-requires-clause-next g c = hang_next c.args.row c.args.more c.args.chair.now.first.part c.requires.stands c.requires.both c.if-row-eq0.false
    c.if-more-eq0.false

pub turn-requires-clause-taken : goal.turn-requires-clause-taken
turn-requires-clause-taken g c = hang_turns c.args.row c.args.more c.args.chair.now.first.part c.requires.stands c.requires.both
    c.if-row-eq0.false c.if-more-eq0.false

pub overflow_add-result : goal.overflow_add-result
overflow_add-result g c = let p = c.args.chair.now.first.part in let both = c.requires.both in
    omega (
      arith,
      hang_count c.args.row c.args.more p c.requires.stands both c.if-row-eq0.false c.if-more-eq0.false,
      stands_walked p _ c.requires.stands both.stage_is,
      number_small p.layout,
    )

pub returns : goal.returns
returns g c =
    let row = c.args.row in let more = c.args.more in let p = c.args.chair.now.first.part in let q = c.turn.new.self.first.part in
    let both = c.requires.both in
    let makes = c.turn.ensures.step.steps.moves.makes in let stage = hang_stage row more p c.requires.stands both q makes in record {
      learns = inr (learns_step 0 _ _ _ _ _ c.turn.ensures.step);
      follows = follows_on p p q (follows_none p) (hang_tells row more p c.requires.stands both q makes);
      stands = makes_stands _ _ p q makes;
      stage = stage;
      has_row = hangs row more p c.requires.stands both c.if-row-eq0.false c.if-more-eq0.false q stage makes;
      count = refl;
      hand = same_hand 0 _ _ _ _ _ c.turn.ensures.step (λ moves. moves.1);
    }
