use Rattle.std.proofs.Common.{not, refl, ap, ◌∙◌}
use Rattle.wq_words.proofs.Running.{runs_told, idle_told}
use Rattle.wq_seats.proofs.owning.chain_shut.Goals as goal

pub returns-then-is_none : goal.returns-then-is_none
returns-then-is_none c = (
  c.requires.item,
  c.requires.shut,
  idle_told c.args.owner.now.seen c.running.result c.running.ensures.runs (c.is_none.ensures ∙ ap not c.if-is_none.true),
  refl,
)

pub chain_now-requires : goal.chain_now-requires
chain_now-requires c = record {
  item = c.requires.item;
  shut = c.requires.shut;
  runs = runs_told c.args.owner.now.seen c.running.result c.running.ensures.runs (c.is_none.ensures ∙ ap not c.if-is_none.false);
}

pub returns : goal.returns
returns c = (
  c.requires.item,
  c.requires.shut,
  runs_told c.args.owner.now.seen c.running.result c.running.ensures.runs (c.is_none.ensures ∙ ap not c.if-is_none.false),
  c.chain_now.ensures.0,
  c.chain_now.ensures.1,
)
