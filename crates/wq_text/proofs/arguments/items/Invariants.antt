use Rattle.wq_text.proofs.Common.{◌≡◌, ◌<◌, All, length, drop, map, item, each}
use Rattle.wq_text.proofs.FollowItems.{behind}
use Rattle.wq_text.proofs.arguments.items.Given as goal

-- what is left, read behind what was read, gives what all words give
abbrev pub invariant-loop-word : goal.invariant-loop-word
invariant-loop-word l = record {
  few : length l.follow.items ≡ l.word-index;
  within : All (λ n. n < l.layout.items) l.follow.items;
  told : each (item l.layout) (map (λ w. w.now) l.words) ≡ behind (item l.layout) l.follow.items (drop l.word-index l.words);
}
