use Rattle.wq_pool_plan.proofs.Common.{◌≡◌, ℕ, ◌+◌, ◌<◌, ◌≤◌, [], ◌∷◌, ◌++◌, length, get_or, Known, Group}
use Rattle.wq_pool_plan.proofs.teams.deal.Given as goal

-- the groups before the place got their senders, and the others are as they were
abbrev pub invariant-loop-sender : goal.invariant-loop-sender
invariant-loop-sender l = record {
  place_is : l.place ≡ length l.yielded;
  count : length l.groups ≡ length l.fn.groups;
  dealt : (i : ℕ) (d e : Group) (x : Known) → i < l.place
      → (get_or l.groups i d).senders.items ≡ (get_or l.fn.groups i e).senders.items ++ get_or l.fn.senders.items i x ∷ [];
  longer : (i : ℕ) (d e : Group) → i < l.place → length (get_or l.groups i d).senders.items ≡ length (get_or l.fn.groups i e).senders.items + 1;
  rest : (i : ℕ) (d : Group) → l.place ≤ i → get_or l.groups i d ≡ get_or l.fn.groups i d;
}
