use Rattle.wq_text.proofs.Common.{◌+◌, ◌≤◌, length, line_gives, SoundAt}
use Rattle.wq_text.specs.TextLimits.{most_bytes}
use Rattle.wq_text.proofs.Texts.{IsReadTo}
use Rattle.wq_text.proofs.text.read.Given as goal

abbrev pub invariant-loop-line : goal.invariant-loop-line
invariant-loop-line g l = record {
  short : length l.text ≤ most_bytes;
  few : l.number + length l.rest ≤ most_bytes + 1;
  less : length l.asked.items + 1 ≤ l.number;
  sound : SoundAt g.L.Language.grammar.most.senders g.L.Language.fits l.awaited l.asked.items;
  read : IsReadTo (line_gives g.L.Language.grammar) l.text l.rest l.number l.awaited l.asked.items;
}

abbrev pub decreases-loop-line : goal.decreases-loop-line
decreases-loop-line g l = length l.rest
