-- The sum of what the senders of a queue have counted.
use Rattle.std.proofs.Common.{◌≡◌, ◌≢◌, ℕ, zero, suc, ◌+◌, ◌≤◌, ◌<◌, cond, ◌==◌, List, [], ◌∷◌, ◌++◌, length, count_by, sym, ap}
use Rattle.std.proofs.Common.{◌∙◌, subst, add-one, arith}
use Rattle.wq_words.specs.declared.layout.Layout.{Layout}
use Rattle.wq_words.specs.declared.event.Event.{Event}
use Rattle.wq_words.specs.declared.event.Event.TheVariants.{Push}
use Rattle.wq_words.specs.History.{ended, is_push}
use Rattle.wq_words.specs.Legal.{IsLegal, IsComplete}
use Rattle.wq_words.specs.Counting.{is_queued_by, is_chain}
use Rattle.wq_words.proofs.Seen.{count_same}
use Rattle.wq_words.proofs.Counting.{queued_own}
use Rattle.wq_words.proofs.Appended.{accepted-count, count_by-append, count_by-cons, at_most_one}
use Rattle.wq_live.specs.Counts.{sender_counts, owner_counts}
use Rattle.wq_calls.proofs.Final.{final}
use Rattle.wq_ledger.specs.Balance.{AreOwnerWhole, largest}
use Rattle.wq_ledger.proofs.Pushes.{is_queued_below, below_more, below_none, below_all}
use Rattle.wq_seats.specs.Sums.{queued_below, IsOfQueue, HaveCounted}

one_of : (s : ℕ) (e : Event) → cond {A = ℕ} (is_queued_by s e) 1 0 ≤ cond {A = ℕ} (is_push e) 1 0
one_of s (Push t k) = at_most_one (t == s)
one_of s _ = omega arith

-- one sender has pushed at most as often as all have
some_of : (s : ℕ) (h : List Event) → count_by (is_queued_by s) h ≤ count_by is_push h
some_of s [] = omega arith
some_of s (e ∷ es) = omega (arith, count_by-cons (is_queued_by s) e es, count_by-cons is_push e es, one_of s e, some_of s es)

module _ (layout : Layout) (h : List Event) (complete : IsComplete h) where
  -- nobody pushes behind the end of the queue
  none_behind : (s : ℕ) (new : List Event) → IsLegal layout (h ++ new) → count_by (is_queued_by s) (h ++ new) ≡ count_by (is_queued_by s) h
  none_behind s new legal =
      let same = ap length (final layout h complete new legal).0 in let pushes = count_by-append is_push h new in
      let chains = count_by-append is_chain h new in let own = count_by-append (is_queued_by s) h new in
      omega (arith, same, pushes, chains, own, accepted-count (h ++ new), accepted-count h, some_of s new)

  -- so what a sender of the queue has pushed is what the owner has seen of it
  pushes_seen : (s : ℕ) (v : List Event) → IsOfQueue layout s v h → count_by (is_queued_by s) v ≡ count_by (is_queued_by s) h
  pushes_seen s v of =
      let new = of.goes_on.0 in let is : h ++ new ≡ of.now = of.goes_on.1 in
      count_same (is_queued_by s) s (queued_own s) of.now v of.made
      ∙ subst (λ (w : List Event). count_by (is_queued_by s) w ≡ count_by (is_queued_by s) h) is
      (none_behind s new (subst (IsLegal layout) (sym is) of.legal))

  below_sum : (seen : ℕ → List Event) (n : ℕ)
      → ((s : ℕ) → s < n → IsOfQueue layout s (seen s) h × ((sender_counts s (seen s)).queued ≢ largest))
      → queued_below n seen ≡ count_by (is_queued_below n) h
  below_sum seen zero counted = sym (below_none h)
  below_sum seen (suc n) counted =
      let before = below_sum seen n (λ s low. counted s (omega arith)) in let here = counted n (omega arith) in
      let pushes = pushes_seen n (seen n) here.0 in
      let whole : (sender_counts n (seen n)).queued ≡ count_by (is_queued_by n) (seen n) = omega (arith, here.1) in
      let more : count_by (is_queued_below (suc n)) h ≡ count_by (is_queued_below n) h + count_by (is_queued_by n) h =
      subst (λ (z : ℕ). count_by (is_queued_below z) h ≡ count_by (is_queued_below n) h + count_by (is_queued_by n) h) (add-one n) (below_more n h) in
      omega (arith, before, whole, pushes, more)

pub sums_balance : (layout : Layout) (h : List Event) (seen : ℕ → List Event) → IsLegal layout h → IsComplete h → HaveCounted layout seen h
    → AreOwnerWhole (owner_counts h) → queued_below layout.senders seen + (owner_counts h).chained ≡ (owner_counts h).ended
sums_balance layout h seen legal complete counted whole =
    let sum = below_sum layout h complete seen layout.senders counted in let all = below_all layout h legal in
    let chained : (owner_counts h).chained ≡ count_by is_chain h = omega (arith, whole.0) in
    let executed : (owner_counts h).ended ≡ length (ended h) = omega (arith, whole.2) in
    omega (arith, sum, all, chained, executed, accepted-count h, complete.1)
