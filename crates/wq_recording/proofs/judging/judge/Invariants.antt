use Rattle.wq_recording.proofs.Common.{[], ℕ, List, Option, IsMadeAt, line_gives}
use Rattle.std.specs.Io.KnownBytes.{Consumes}
use Rattle.wq_text.specs.Sound.{SoundAt}
use Rattle.wq_recording.specs.Lines.{IsLineRead}
use Rattle.wq_recording.proofs.Reading.{Reads}
use Rattle.wq_recording.proofs.judging.judge.Given as goal

abbrev pub invariant-loop-number : goal.invariant-loop-number
invariant-loop-number g l =
    let recording = g.L.Recording in
    let left = g.B.Read.remaining in
    record {
      sound : SoundAt g.L.Language.grammar.most.senders g.L.Language.fits l.awaited [];
      made : IsMadeAt recording.layout_of l.awaited l.checker;
      reads : (known : Option (List ℕ)) → Consumes known (left l.fn.reader) l.fn.line.items → IsLineRead l.fn.line.items known (left l.fn.reader)
          → Reads (line_gives g.L.Language.grammar) recording.rules recording.layout_of recording.is_after known l.number l.awaited l.checker
          l.line.items (left l.reader);
    }
