use Rattle.std.proofs.Common.{sym, refl, ◌∙◌}
use Rattle.wq_calls.proofs.NextTold.{waits_told, empty_told}
use Rattle.wq_seats.proofs.owning.take_open.Goals as goal

pub returns-then-is_some : goal.returns-then-is_some
returns-then-is_some c = (
  c.requires.«open»,
  waits_told c.args.owner.now.seen c.next.result c.next.ensures.first (sym c.is_some.ensures ∙ c.if-is_some.true),
  refl,
)

pub take_now-requires : goal.take_now-requires
take_now-requires c = record {
  «open» = c.requires.«open»;
  empty = empty_told c.args.owner.now.seen c.next.result c.next.ensures.first (sym c.is_some.ensures ∙ c.if-is_some.false);
}

pub returns : goal.returns
returns c = c.take_now.ensures
