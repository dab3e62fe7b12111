use Rattle.wq_calls.proofs.Common.{[], ap, sym, ◌∙◌, head_at, item_of, kept_batch}
use Rattle.wq_table.proofs.Learns.{or_or}
use Rattle.wq_calls.proofs.Taking.{follows_both, head_small}
use Rattle.wq_calls.proofs.TurnedHands.{both_hung, stands_turned, turned_learns, turned_follows, stage_turned, hung_slots}
use Rattle.wq_calls.proofs.owner_seat.walk_all.Goals as goal

pub head_at-requires : goal.head_at-requires
head_at-requires g c = let p = c.args.chair.now.first.part in head_small c.args.head [] (kept_batch p.stage) p c.requires.stands c.requires.stage

pub hang-requires-clause-stands : goal.hang-requires-clause-stands
hang-requires-clause-stands g c = let p = c.args.chair.now in let t = c.turn_taken-taken in
    stands_turned (kept_batch p.first.part.stage) (item_of (head_at c.args.head)) t.result p t.new.chair c.turn_hand.new.chair c.requires.stage
    t.ensures.turned c.turn_hand.ensures.turned t.ensures.stands

pub hang-requires-clause-both : goal.hang-requires-clause-both
hang-requires-clause-both g c = let p = c.args.chair.now in let t = c.turn_taken-taken in
    both_hung (kept_batch p.first.part.stage) (item_of (head_at c.args.head)) t.result p t.new.chair c.turn_hand.new.chair c.requires.stage
    t.ensures.turned c.turn_hand.ensures.turned c.args.row c.requires.row

pub returns-clause-learns : goal.returns-clause-learns
returns-clause-learns g c = let p = c.args.chair.now in let t = c.turn_taken-taken in
    or_or 0 p c.turn_hand.new.chair c.hang.new.chair
    (turned_learns (kept_batch p.first.part.stage) (item_of (head_at c.args.head)) t.result p t.new.chair c.turn_hand.new.chair c.requires.stage
    t.ensures.turned c.turn_hand.ensures.turned t.ensures.learns) c.hang.ensures.learns

pub returns-clause-follows : goal.returns-clause-follows
returns-clause-follows g c = let p = c.args.chair.now in let t = c.turn_taken-taken in
    follows_both p.first.part c.turn_hand.new.chair.first.part c.hang.new.chair.first.part
    (turned_follows (kept_batch p.first.part.stage) (item_of (head_at c.args.head)) t.result p t.new.chair c.turn_hand.new.chair c.requires.stage
    t.ensures.turned c.turn_hand.ensures.turned t.ensures.follows) c.hang.ensures.follows

pub returns-clause-behind : goal.returns-clause-behind
returns-clause-behind g c = let p = c.args.chair.now in let t = c.turn_taken-taken in let turned = t.ensures.turned in (
  turned.turned.taken,
  sym (ap kept_batch (c.hang.ensures.stage ∙ stage_turned (kept_batch p.first.part.stage) (item_of (head_at c.args.head)) t.result p t.new.chair
      c.turn_hand.new.chair c.requires.stage turned c.turn_hand.ensures.turned)),
)

pub returns-clause-slots : goal.returns-clause-slots
returns-clause-slots g c = let p = c.args.chair.now in let t = c.turn_taken-taken in let h = c.hang.ensures in
    let ks = kept_batch p.first.part.stage in let first = item_of (head_at c.args.head) in
    hung_slots ks first t.result p t.new.chair c.turn_hand.new.chair c.requires.stage t.ensures.turned c.turn_hand.ensures.turned c.hang.new.chair
    (stands_turned ks first t.result p t.new.chair c.turn_hand.new.chair c.requires.stage t.ensures.turned c.turn_hand.ensures.turned t.ensures.stands)
    h.learns h.follows h.stage h.hand
