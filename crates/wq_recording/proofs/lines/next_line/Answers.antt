use Rattle.std.proofs.Common.{subst}
use Rattle.wq_recording.specs.Lines.{EndsOrGoesOn}
use Rattle.wq_recording.proofs.LineBytes.{read_on, ends_on}
use Rattle.wq_recording.proofs.lines.next_line.Goals as goal

pub returns-then-branch-clause-bytes : goal.returns-then-branch-clause-bytes
returns-then-branch-clause-bytes g c =
    read_on _ _ _ _ _ c.loop.invariant.bytes c.in_ok-append_part.ensures.appends c.in_ok-append_part.ensures.bytes

pub returns-then-branch-clause-line : goal.returns-then-branch-clause-line
returns-then-branch-clause-line g c =
    let step = c.in_ok-append_part.ensures in
    let line = c.append_part.new.line.items in
    let old = g.B.Read.remaining c.loop.reader in
    let left = g.B.Read.remaining c.append_part.new.reader in
    let ends = subst (λ done. EndsOrGoesOn done line old left) c.if-branch.true step.done in
    record { few = step.room; stops = step.stops; ends = ends_on _ old left _ line c.loop.invariant.bytes ends }

pub loop-preserved : goal.loop-preserved
loop-preserved g c =
    let step = c.in_ok-append_part.ensures in
    let line = c.append_part.new.line.items in
    let old = g.B.Read.remaining c.loop.reader in
    let left = g.B.Read.remaining c.append_part.new.reader in
    record {
      room = step.room;
      none = subst (λ done. EndsOrGoesOn done line old left) c.if-branch.false step.done;
      bytes = read_on _ _ _ _ _ c.loop.invariant.bytes step.appends step.bytes;
    }
