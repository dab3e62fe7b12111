use Rattle.wq_calls.proofs.Common.{◌≡◌, ℕ, [], ◌∷◌, ◌∙◌, ap, sym, subst, inr, arith, Option, Some, None, number_count, learns_step, Row, kept_batch}
use Rattle.wq_table.proofs.Learns.{learns_then, or_then}
use Rattle.wq_calls.specs.Hands.{TurnedSlots}
use Rattle.wq_calls.proofs.Waiting.{stands_walking}
use Rattle.wq_calls.proofs.Tells.{Tells}
use Rattle.wq_calls.proofs.OwnerTells.{makes_stands, walking_on, walk_stage, walk_tells}
use Rattle.wq_calls.proofs.Linking.{turn_next, turn_number, front_number, turned_tells, to_walk_on, on, walked_stage}
use Rattle.wq_calls.proofs.Taking.{follows_on, follows_none, number_small, walking_small}
use Rattle.wq_calls.proofs.TurnedHands.{first_turned, next_turned, all_turned, none_turned}
use Rattle.wq_calls.proofs.owner_seat.turn_taken.Goals as goal

none_left : (x : Option ℕ) → ((k : ℕ) → x ≡ Some k → ⊥) → x ≡ None
none_left None not_some = cc
none_left (Some k) not_some = absurd (not_some k cc)

pub walk-requires-clause-number : goal.walk-requires-clause-number
walk-requires-clause-number g c = let p = c.args.chair.now.first.part in let ks = kept_batch p.stage in let last = c.in-Some.last in
    let stage = c.requires.stage ∙ walking_on _ last [] ks c.in-Some.is in
    (stands_walking p last [] ks c.requires.stands stage).0

pub walk-requires-clause-next : goal.walk-requires-clause-next
walk-requires-clause-next g c = let p = c.args.chair.now.first.part in let ks = kept_batch p.stage in let last = c.in-Some.last in
    let stage = c.requires.stage ∙ walking_on _ last [] ks c.in-Some.is in
    to_walk_on last p.stage [] ks stage

pub number_at-next-requires : goal.number_at-next-requires
number_at-next-requires g c = let p = c.args.chair.now.first.part in let ks = kept_batch p.stage in let last = c.in-Some.last in
    let q = c.walk.new.self.first.part in let makes = c.walk.ensures.step.steps.moves.makes in
    let stage = c.requires.stage ∙ walking_on _ last [] ks c.in-Some.is in
    walking_small c.walk.result (last ∷ []) ks q (makes_stands _ _ p q makes) (walk_stage last c.walk.result p q [] ks stage makes)

pub loop-next-init : goal.loop-next-init
loop-next-init g c = let p = c.args.chair.now.first.part in let ks = kept_batch p.stage in let last = c.in-Some.last in
    let q = c.walk.new.self.first.part in let found = c.walk.result in let makes = c.walk.ensures.step.steps.moves.makes in
    let stage = c.requires.stage ∙ walking_on _ last [] ks c.in-Some.is in record {
      learns = inr (learns_step 0 _ _ _ _ _ c.walk.ensures.step);
      follows = follows_on p p q (follows_none p) (walk_tells last found p q [] ks stage makes);
      stands = makes_stands _ _ p q makes;
      turns = rw (c.number_at-next.ensures.number, c.of_one-row.ensures)
          (first_turned last found ks c.args.chair.now c.walk.new.self c.requires.stands stage c.walk.ensures.step c.requires.slots);
    }

pub walk-requires-in-Some-next-clause-number : goal.walk-requires-in-Some-next-clause-number
walk-requires-in-Some-next-clause-number g c = let l = c.loop-next in let i = l.invariant in
    let ks = kept_batch c.args.chair.now.first.part.stage in
    let number = c.in-Some-next.number in let walked = l.row.front ∷ i.turns.turning.rest in
    (stands_walking l.chair.first.part number walked ks i.stands (i.turns.turning.stage_is ∙ walking_on l.next number walked ks c.in-Some-next.is)).0

pub walk-requires-in-Some-next-clause-next : goal.walk-requires-in-Some-next-clause-next
walk-requires-in-Some-next-clause-next g c = let l = c.loop-next in let i = l.invariant in let ks = kept_batch c.args.chair.now.first.part.stage in
    let number = c.in-Some-next.number in let walked = l.row.front ∷ i.turns.turning.rest in
    to_walk_on number l.chair.first.part.stage walked ks (i.turns.turning.stage_is ∙ walking_on l.next number walked ks c.in-Some-next.is)

pub number_at-next-requires-in-Some-next : goal.number_at-next-requires-in-Some-next
number_at-next-requires-in-Some-next g c = let l = c.loop-next in let p = l.chair.first.part in let turning = l.invariant.turns.turning in
    let ks = kept_batch c.args.chair.now.first.part.stage in let number = c.in-Some-next.number in let found = c.walk-in-Some-next.result in
    let t = c.walk-in-Some-next.new.self.first.part in let walks = c.walk-in-Some-next.ensures.step.steps.moves.makes in
    let stands = makes_stands _ _ p t walks in
    walking_small found (number ∷ l.row.front ∷ turning.rest) ks t stands
    (walked_stage ks l.next number found l.row c.args.chair.now.first.part p turning c.in-Some-next.is t stands walks)

pub turn-requires-clause-number : goal.turn-requires-clause-number
turn-requires-clause-number g c = let l = c.loop-next in let p = l.chair.first.part in
    let t = c.walk-in-Some-next.new.self.first.part in let walks = c.walk-in-Some-next.ensures.step.steps.moves.makes in
    turn_number (kept_batch c.args.chair.now.first.part.stage) l.next c.in-Some-next.number c.walk-in-Some-next.result l.row
    c.args.chair.now.first.part p
    l.invariant.turns.turning c.in-Some-next.is t (makes_stands _ _ p t walks) walks

pub turn-requires-clause-next : goal.turn-requires-clause-next
turn-requires-clause-next g c = let l = c.loop-next in let p = l.chair.first.part in
    let t = c.walk-in-Some-next.new.self.first.part in let walks = c.walk-in-Some-next.ensures.step.steps.moves.makes in
    front_number (kept_batch c.args.chair.now.first.part.stage) l.next c.in-Some-next.number c.walk-in-Some-next.result l.row
    c.args.chair.now.first.part p
    l.invariant.turns.turning c.in-Some-next.is t (makes_stands _ _ p t walks) walks

pub turn-requires-clause-taken : goal.turn-requires-clause-taken
turn-requires-clause-taken g c = let l = c.loop-next in let p = l.chair.first.part in
    let t = c.walk-in-Some-next.new.self.first.part in let walks = c.walk-in-Some-next.ensures.step.steps.moves.makes in
    turn_next (kept_batch c.args.chair.now.first.part.stage) l.next c.in-Some-next.number c.walk-in-Some-next.result l.row
    c.args.chair.now.first.part p
    l.invariant.turns.turning c.in-Some-next.is t (makes_stands _ _ p t walks) walks

pub overflow_add-row : goal.overflow_add-row
overflow_add-row g c = let l = c.loop-next in let i = l.invariant in let p = l.chair.first.part in
    let ks = kept_batch c.args.chair.now.first.part.stage in
    let number = c.in-Some-next.number in let walked = l.row.front ∷ i.turns.turning.rest in
    let stage = i.turns.turning.stage_is ∙ walking_on l.next number walked ks c.in-Some-next.is in
    omega (arith, (stands_walking p number walked ks i.stands stage).1, i.turns.turning.count_is, number_small p.layout)

pub loop-next-preserved : goal.loop-next-preserved
loop-next-preserved g c = let l = c.loop-next in let i = l.invariant in let o = c.args.chair.now.first.part in
    let p = l.chair.first.part in
    let ks = kept_batch o.stage in let t = c.walk-in-Some-next.new.self.first.part in let found = c.walk-in-Some-next.result in
    let walks = c.walk-in-Some-next.ensures.step.steps.moves.makes in let r = c.turn.new.self.first.part in let turns = c.turn.ensures.step.steps.moves.makes in
    let stands = makes_stands _ _ p t walks in let number = c.in-Some-next.number in let is = c.in-Some-next.is in
    let stage = on ks l.next number found l.row o p i.turns.turning is t stands walks in
    let walked : Tells [] p t = walk_tells number found p t (l.row.front ∷ i.turns.turning.rest) ks stage walks in
    let turned : Tells [] t r = turned_tells ks l.next number found l.row o p i.turns.turning is t stands walks r turns in record {
      learns = inr (learns_then 0 _ _ _ _ _ _ (or_then 0 _ _ _ _ _ _ i.learns c.walk-in-Some-next.ensures.step) c.turn.ensures.step);
      follows = follows_on o t r (follows_on o p t i.follows walked) turned;
      stands = makes_stands _ _ t r turns;
      turns = rw c.number_at-next-in-Some-next.ensures.number (next_turned ks l.next number found l.row c.args.chair.now l.chair
          c.walk-in-Some-next.new.self c.turn.new.self i.stands i.turns is c.walk-in-Some-next.ensures.step c.turn.ensures.step);
    }

pub loop-next-smaller : goal.loop-next-smaller
loop-next-smaller g c = let l = c.loop-next in let i = l.invariant in let o = c.args.chair.now.first.part in
    let p = l.chair.first.part in
    let ks = kept_batch o.stage in let t = c.walk-in-Some-next.new.self.first.part in let found = c.walk-in-Some-next.result in
    let walks = c.walk-in-Some-next.ensures.step.steps.moves.makes in let r = c.turn.new.self.first.part in let turns = c.turn.ensures.step.steps.moves.makes in
    let stands = makes_stands _ _ p t walks in let number = c.in-Some-next.number in let is = c.in-Some-next.is in
    let stage = on ks l.next number found l.row o p i.turns.turning is t stands walks in
    let walked : Tells [] p t = walk_tells number found p t (l.row.front ∷ i.turns.turning.rest) ks stage walks in
    let turned : Tells [] t r = turned_tells ks l.next number found l.row o p i.turns.turning is t stands walks r turns in
    let layout : number_count r.layout ≡ number_count p.layout = ap number_count (turned.layout_is ∙ walked.layout_is) in
    omega (arith, layout, (stands_walking p number (l.row.front ∷ i.turns.turning.rest) ks i.stands stage).1, i.turns.turning.count_is)

pub returns-in_default-clause-turned : goal.returns-in_default-clause-turned
returns-in_default-clause-turned g c = let ks = kept_batch c.args.chair.now.first.part.stage in
    subst (λ (r : Row). TurnedSlots ks r c.args.chair.now c.args.chair.now) (sym c.empty.ensures)
    (none_turned ks c.args.first c.args.chair.now (none_left c.args.first c.in_default.not-Some) c.requires.stage c.requires.slots)

pub returns-clause-turned : goal.returns-clause-turned
returns-clause-turned g c = let l = c.loop-next in
    all_turned (kept_batch c.args.chair.now.first.part.stage) l.next l.row c.args.chair.now l.chair (none_left l.next c.in_default-next.not-Some)
    l.invariant.turns
