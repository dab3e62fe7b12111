use Rattle.std.proofs.Common.{sym}
use Rattle.wq_text.proofs.Sound.{keeps_asked}
use Rattle.wq_text.proofs.line.asking_line.Goals as goal

pub returns-clause-sound : goal.returns-clause-sound
returns-clause-sound g c =
    keeps_asked g.L.Language.grammar.most.senders g.L.Language.fits c.args.awaited c.in-Some-layout.layout c.in_ok-asked.asked
    (sym c.in-Some-layout.ensures.known) c.in_ok-asked.ensures.fits
