use Rattle.std.proofs.Common.{◌≡◌, ◌++◌, take, flat_map, string_bytes}
use Rattle.wq_meaning.specs.Report.{count_line}
use Rattle.wq_recording.proofs.count_text.write_count_lines.Given as goal

-- those before this place were written
abbrev pub invariant-loop-word : goal.invariant-loop-word
invariant-loop-word l =
    string_bytes l.out ≡ string_bytes l.fn.out ++ flat_map (λ count. count_line count.0.now count.1) (take l.word-index l.counts)
