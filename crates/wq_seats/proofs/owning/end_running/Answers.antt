use Rattle.std.proofs.Common.{not, refl, ap, ◌∙◌}
use Rattle.wq_words.proofs.Running.{runs_told, idle_told}
use Rattle.wq_seats.proofs.owning.end_running.Goals as goal

pub returns-then-is_none : goal.returns-then-is_none
returns-then-is_none c =
    (idle_told c.args.owner.now.seen c.running.result c.running.ensures.runs (c.is_none.ensures ∙ ap not c.if-is_none.true), refl)

pub end-requires : goal.end-requires
end-requires c =
    record { runs = runs_told c.args.owner.now.seen c.running.result c.running.ensures.runs (c.is_none.ensures ∙ ap not c.if-is_none.false) }

pub returns : goal.returns
returns c = (
  runs_told c.args.owner.now.seen c.running.result c.running.ensures.runs (c.is_none.ensures ∙ ap not c.if-is_none.false),
  c.end.ensures.seen,
  c.end.ensures.idle,
)
