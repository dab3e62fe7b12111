use Rattle.std.proofs.Common.{not, sym, refl, ap, ◌∙◌}
use Rattle.wq_words.proofs.Running.{runs_told, idle_told}
use Rattle.wq_calls.proofs.NextTold.{waits_told, empty_told}
use Rattle.wq_seats.proofs.owning.begin_next.Goals as goal

pub returns-then-is_some : goal.returns-then-is_some
returns-then-is_some c =
    (runs_told c.args.owner.now.seen c.running.result c.running.ensures.runs (sym c.is_some.ensures ∙ c.if-is_some.true), refl)

pub returns-then-is_none : goal.returns-then-is_none
returns-then-is_none c = let h = c.args.owner.now.seen in (
  idle_told h c.running.result c.running.ensures.runs (sym c.is_some.ensures ∙ c.if-is_some.false),
  empty_told h c.next.result c.next.ensures.first (c.is_none.ensures ∙ ap not c.if-is_none.true),
  refl,
)

pub begin-number-requires : goal.begin-number-requires
begin-number-requires c = let h = c.args.owner.now.seen in record {
  waits = waits_told h c.next.result c.next.ensures.first (c.is_none.ensures ∙ ap not c.if-is_none.false);
  idle = idle_told h c.running.result c.running.ensures.runs (sym c.is_some.ensures ∙ c.if-is_some.false);
}

pub returns : goal.returns
returns c = let e = c.begin-number.ensures in (
  idle_told c.args.owner.now.seen c.running.result c.running.ensures.runs (sym c.is_some.ensures ∙ c.if-is_some.false),
  e.next,
  e.seen,
  e.running,
)
