use Rattle.std.proofs.Common.{◌≤◌, List, vec_len, vec_capacity}
use Rattle.wq_recording.proofs.LeftNumbers.{LeftTo}
use Rattle.wq_recording.proofs.verdict_text.left_numbers.Given as goal

-- those before this place were read, and there is room for all
abbrev pub invariant-loop-place : goal.invariant-loop-place
invariant-loop-place g l = record {
  read : (h : List g.row.L-Event.Denot) → g.L.Recording.is_after l.checker h → LeftTo (g.L.Recording.rules.left h) l.place l.count l.numbers.items;
  few : vec_len l.numbers ≤ l.place;
  room : l.count ≤ vec_capacity l.numbers;
}
