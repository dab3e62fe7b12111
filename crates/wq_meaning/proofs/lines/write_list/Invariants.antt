use Rattle.wq_meaning.proofs.Common.{◌≡◌, ◌++◌, take, string_bytes, flat_map, named}
use Rattle.wq_meaning.proofs.lines.write_list.Given as goal

abbrev pub invariant-loop-number : goal.invariant-loop-number
invariant-loop-number l = string_bytes l.out ≡ string_bytes l.fn.out ++ flat_map (named l.layout) (take l.number-index l.numbers)
