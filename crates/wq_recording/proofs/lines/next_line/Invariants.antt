use Rattle.std.proofs.Common.{◌≢◌, ◌≤◌, All, length}
use Rattle.std.specs.Io.KnownBytes.{Consumes}
use Rattle.wq_recording.proofs.lines.next_line.Given as goal

-- what was read of the line has no LF
abbrev pub invariant-loop : goal.invariant-loop
invariant-loop g l = record {
  room : length l.line.items ≤ 4097;
  none : All (λ x. x ≢ 10) l.line.items;
  bytes : Consumes (g.B.Read.remaining l.fn.reader) (g.B.Read.remaining l.reader) l.line.items;
}
