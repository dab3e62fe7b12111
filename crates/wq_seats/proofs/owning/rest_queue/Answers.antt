use Rattle.std.proofs.Common.{sym, refl, ◌∙◌}
use Rattle.wq_words.proofs.Closed.{open_from_closed}
use Rattle.wq_words.proofs.Running.{runs_told, idle_told}
use Rattle.wq_calls.proofs.NextTold.{waits_told, empty_told}
use Rattle.wq_seats.proofs.owning.rest_queue.Goals as goal

pub returns-then-is_some : goal.returns-then-is_some
returns-then-is_some c = let h = c.args.owner.now.seen in (
  c.is_draining.ensures.else_open c.if-is_draining.false (open_from_closed h (sym c.is_closed.ensures.closed ∙ c.if-is_closed.false)),
  waits_told h c.next.result c.next.ensures.first (sym c.is_some.ensures ∙ c.if-is_some.true),
  refl,
)

pub returns-then-is_some-2 : goal.returns-then-is_some-2
returns-then-is_some-2 c = let h = c.args.owner.now.seen in (
  c.is_draining.ensures.else_open c.if-is_draining.false (open_from_closed h (sym c.is_closed.ensures.closed ∙ c.if-is_closed.false)),
  empty_told h c.next.result c.next.ensures.first (sym c.is_some.ensures ∙ c.if-is_some.false),
  runs_told h c.running.result c.running.ensures.runs (sym c.is_some-2.ensures ∙ c.if-is_some-2.true),
  refl,
)

pub rest_now-requires : goal.rest_now-requires
rest_now-requires c = let h = c.args.owner.now.seen in record {
  «open» = c.is_draining.ensures.else_open c.if-is_draining.false (open_from_closed h (sym c.is_closed.ensures.closed ∙ c.if-is_closed.false));
  empty = empty_told h c.next.result c.next.ensures.first (sym c.is_some.ensures ∙ c.if-is_some.false);
  idle = idle_told h c.running.result c.running.ensures.runs (sym c.is_some-2.ensures ∙ c.if-is_some-2.false);
}

pub returns : goal.returns
returns c = let h = c.args.owner.now.seen in (
  c.is_draining.ensures.else_open c.if-is_draining.false (open_from_closed h (sym c.is_closed.ensures.closed ∙ c.if-is_closed.false)),
  empty_told h c.next.result c.next.ensures.first (sym c.is_some.ensures ∙ c.if-is_some.false),
  idle_told h c.running.result c.running.ensures.runs (sym c.is_some-2.ensures ∙ c.if-is_some-2.false),
  c.rest_now.ensures,
)
