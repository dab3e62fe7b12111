-- What was seen goes on, so what was accepted, begun and ended before begins what is now.
use Rattle.wq_worker.proofs.Common.{◌≡◌, ℕ, List, [], ◌∷◌, ◌++◌, sym, ap, ◌∙◌, subst, arith, filter_map-append, Event, End, Drain, Resume, accepted}
use Rattle.wq_worker.proofs.Common.{begun_by, begun, ended, IsClosed, IsLegal, IsComplete, HasRunOut, in_order, Ran, Item, Barrier, Stop}
use Rattle.wq_worker.proofs.Common.{Nothing, Owing, WorkerState, Moves, EndsBy, OwesBy, owes, RunsBy, RowBy, none, more, Shuts, drains, Resumes}
use Rattle.wq_worker.proofs.Common.{stays_closed, reopens}
use Rattle.wq_worker.proofs.Common.{Layout, items_among}
use mathlib.Core.List.{IsPrefix}
use Rattle.std.specs.Prelude.{nat_lt}
use Rattle.std.proofs.lemmas.List.Elements.{filter-append}
use Rattle.wq_words.specs.History.{ended_by}
use Rattle.wq_words.proofs.Closed.{closed_shuts}
use Rattle.wq_words.proofs.Prefixes.{prefix_self, prefix_on, prefix_whole}
use Rattle.wq_worker.specs.Step.{ends}
use Rattle.wq_worker.specs.declared.drained.Drained.{Drained}
use Rattle.wq_worker.specs.declared.drained.Drained.TheVariants.{Empty, TooLong}
use Rattle.wq_worker.specs.Rows.{GoesOn, IsExecution, IsNotStop, RunsSomeBy, full, broken, ServesBy, DrainsBy, Closes, was_closed, closes, was_shut}
use Rattle.wq_words.proofs.Appended.{prefix_accepted}

pub begun_more : (v w : List Event) → IsPrefix v w → IsPrefix (begun v) (begun w)
begun_more v w p = (begun p.0, sym (filter_map-append begun_by v p.0) ∙ ap begun p.1)

pub ended_more : (v w : List Event) → IsPrefix v w → IsPrefix (ended v) (ended w)
ended_more v w p = (ended p.0, sym (filter_map-append ended_by v p.0) ∙ ap ended p.1)

items_more : (layout : Layout) (xs ys : List ℕ) → IsPrefix xs ys → IsPrefix (items_among layout xs) (items_among layout ys)
items_more layout xs ys p =
    (items_among layout p.0, sym (filter-append (λ k. nat_lt k layout.items) xs p.0) ∙ ap (items_among layout) p.1)

-- a log of the items that began goes on
pub log_more : (layout later : Layout) (v w : List Event) (l m : List ℕ) → l ≡ items_among layout (begun v) → m ≡ items_among later (begun w)
    → later ≡ layout → IsPrefix v w → IsPrefix l m
log_more layout later v w l m was is size p =
    let q = items_more layout (begun v) (begun w) (begun_more v w p) in
    let now : m ≡ items_among layout (begun w) = is ∙ ap (λ (z : Layout). items_among z (begun w)) size in
    (q.0, ap (λ (z : List ℕ). z ++ q.0) was ∙ (q.1 ∙ sym now))

pub same_more : {W X : Type 0} (log : W → List X) (u w : W) → w ≡ u → IsPrefix (log u) (log w)
same_more {X = X} log u w same = subst (λ (x : _). IsPrefix (log u) (log x)) (sym same) (prefix_self (log u))

-- where a queue has run out, all that was accepted has ended, in that order
pub out_ended : (h : List Event) (layout : Layout) → IsLegal layout h → HasRunOut h → IsPrefix (accepted h) (ended h)
out_ended h layout legal out =
    let o = in_order layout h legal in
    let p = prefix_on (ended h) (begun h) (accepted h) o.ended_first o.begun_first in
    let same : ended h ≡ accepted h = prefix_whole (ended h) (accepted h) p (omega (arith, out.1)) in
    subst (λ (ks : List ℕ). IsPrefix ks (ended h)) same (prefix_self (ended h))

module _ {W : Type 0} where
  pub moves_seen : (xs : List Event) (n : ℕ) (a b : WorkerState W) → Moves xs n a b → IsPrefix a.seen b.seen
  moves_seen xs n a b m = (m.adds.new, sym m.adds.is)

  same_seen : (a b : WorkerState W) → b ≡ a → IsPrefix a.seen b.seen
  same_seen a b same = subst (λ (w : WorkerState W). IsPrefix a.seen w.seen) (sym same) (prefix_self a.seen)

  pub shuts_seen : (a b : WorkerState W) → Shuts a b → IsPrefix a.seen b.seen
  shuts_seen a b (was_shut is same) = same_seen a b same
  shuts_seen a b (drains opens moved work left) = moves_seen (Drain ∷ []) 0 a b moved

  pub resumes_seen : (a b : WorkerState W) → Resumes a b → IsPrefix a.seen b.seen
  resumes_seen a b (stays_closed is same) = same_seen a b same
  resumes_seen a b (reopens draining moved work left) = moves_seen (Resume ∷ []) 0 a b moved

  -- a closed queue neither drains nor resumes
  pub shuts_closed : (a b : WorkerState W) → Shuts a b → IsClosed a.seen → IsClosed b.seen
  shuts_closed a b (was_shut is same) closed = subst (λ (w : WorkerState W). IsClosed w.seen) (sym same) closed
  shuts_closed a b (drains opens moved work left) closed = absurd (opens (closed_shuts a.seen closed))

  pub resumes_complete : (a b : WorkerState W) → Resumes a b → IsComplete a.seen → IsComplete b.seen
  resumes_complete a b (stays_closed is same) done = subst (λ (w : WorkerState W). IsComplete w.seen) (sym same) done
  resumes_complete a b (reopens draining moved work left) done = absurd (draining.1 done.0)

  -- where all has ended and the queue is closed, it has run out still once it is closed where it was not
  pub closes_out : (a b : WorkerState W) → Closes a b → IsComplete a.seen → HasRunOut b.seen
  closes_out a b (was_closed is same) done =
      subst (λ (w : WorkerState W). HasRunOut w.seen) (sym same) (closed_shuts a.seen done.0, done.1)
  closes_out a b (closes opens moved work left) done = absurd (opens done.0)

module _ {W : Type 0} (may : W → ℕ → List ℕ → W → Type 0) (gives : W → W → Type 0) where
  ends_seen : (k : ℕ) (a b : WorkerState W) → EndsBy may gives a k b → IsPrefix a.seen b.seen
  ends_seen k a b (ends f es fs st told moved rests) = moves_seen (es ++ (fs ++ End k ∷ [])) 0 a b moved

  owes_seen : (k : ℕ) (a b : WorkerState W) → OwesBy may gives a k b → IsPrefix a.seen b.seen
  owes_seen k a b (owes f qs j rest es fs st split small left opens told moved runs) = moves_seen _ a.tries a b moved

  pub runs_by_seen : (r : Ran) (a b : WorkerState W) → RunsBy may gives r a b → IsPrefix a.seen b.seen
  runs_by_seen (Item k) a b t = ends_seen t.0 a b t.2
  runs_by_seen (Barrier k) a b t = ends_seen t.0 a b t.2
  runs_by_seen Stop a b t = ends_seen t.0 a b t.2
  runs_by_seen Nothing a b t = moves_seen _ 0 a b t.3
  runs_by_seen (Owing k) a b t = owes_seen k a b t

  pub row_seen : (P : Ran → Type 0) (n : ℕ) (a b : WorkerState W) → RowBy may gives P n a b → IsPrefix a.seen b.seen
  row_seen P n a b (none c) = prefix_self c.seen
  row_seen P n a b (more m r c d e row passes run) = prefix_on c.seen d.seen e.seen (row_seen P m c d row) (runs_by_seen r d e run)

  pub some_seen : (limit n : ℕ) (a c : WorkerState W) → RunsSomeBy may gives limit n a c → IsPrefix a.seen c.seen
  some_seen limit n a c (full row is) = row_seen GoesOn n a c row
  some_seen limit n a c (broken m r b row low breaks run is) = prefix_on a.seen b.seen c.seen (row_seen GoesOn m a b row) (runs_by_seen r b c run)

  pub serves_seen : (a c : WorkerState W) → ServesBy may gives a c → IsPrefix a.seen c.seen
  serves_seen a c s = prefix_on a.seen s.last.seen c.seen (row_seen IsNotStop s.steps a s.last s.row) (runs_by_seen Stop s.last c s.stops)

  pub drains_seen : (limit : ℕ) (r : Drained) (a c : WorkerState W) → DrainsBy may gives limit r a c → IsPrefix a.seen c.seen
  drains_seen limit Empty a c d =
      prefix_on a.seen d.last.seen c.seen
      (prefix_on a.seen d.began.seen d.last.seen (shuts_seen a d.began d.shuts) (row_seen IsExecution d.steps d.began d.last d.row))
      (resumes_seen d.last c d.resumes)
  drains_seen limit (TooLong left) a c d =
      prefix_on a.seen d.began.seen c.seen (shuts_seen a d.began d.shuts) (row_seen IsExecution limit d.began c d.row)

  -- by a drain that empties the queue all that was accepted before it has ended
  pub drained_ended : (P : Ran → Type 0) (n : ℕ) (a m b c : WorkerState W) → Shuts a m → RowBy may gives P n m b → IsLegal b.layout b.seen → HasRunOut b.seen
      → Resumes b c → IsPrefix (accepted a.seen) (ended c.seen)
  drained_ended P n a m b c shuts row legal out resumes =
      let before = prefix_accepted a.seen b.seen (prefix_on a.seen m.seen b.seen (shuts_seen a m shuts) (row_seen P n m b row)) in
      let after = ended_more b.seen c.seen (resumes_seen b c resumes) in
      prefix_on (accepted a.seen) (ended b.seen) (ended c.seen)
      (prefix_on (accepted a.seen) (accepted b.seen) (ended b.seen) before (out_ended b.seen b.layout legal out)) after
