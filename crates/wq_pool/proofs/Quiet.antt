-- A worker that had done nothing when it was handed in, and whose work asks for nothing, has queued nothing in the end.
use Rattle.std.proofs.lemmas.Option.{none-some}
use Rattle.std.specs.List.{AllByRecursion}
use Rattle.wq_words.specs.History.{accepted, IsRunning}
use Rattle.wq_words.specs.Seen.{own}
use Rattle.wq_ledger.specs.Book.{BookState}
use Rattle.wq_worker.specs.Rows.{Along}
use Rattle.wq_worker.specs.Silent.{AddsNoNumber}
use Rattle.wq_pool.specs.Finished.{EndsFrom}
use Rattle.wq_pool.specs.Quiet.{IsUnused, IsQuiet}
use Rattle.wq_pool.proofs.Common.{◌≡◌, ℕ, suc, ◌<◌, List, [], ◌∷◌, sym, refl, ap, ◌∙◌, subst, WorkerState, BeginAsHandedIn}

module _ {K W B : Type 0} (state : K → WorkerState W) (deals : K → K → Type 0) (book : B → BookState) (has_brought : K → B → Type 0)
    (none : (a b : K) → (state a).number < (state a).layout.senders → ¬ IsRunning (state a).seen → Along deals a b
    → AddsNoNumber (state a).number (state a).seen (state b).seen) (s : ℕ) where
  quiet_one : (old : K) (parts : W × B) → IsUnused s (state old) → EndsFrom state deals book has_brought old parts
      → IsQuiet s (book parts.1).seen
  quiet_one old parts unused ends =
      let same = unused.number_is in
      let adds = none old ends.last (subst (λ (k : ℕ). k < (state old).layout.senders) (sym same) unused.low) unused.idle ends.along in
      let unsent : own s (state ends.last).seen ≡ own s (state old).seen =
      subst (λ (k : ℕ). own k (state ends.last).seen ≡ own k (state old).seen) same adds.unsent in
      subst (IsQuiet s) (sym ends.parts_of_last.book_is.2)
      (ap accepted (unsent ∙ unused.unsent), adds.owned ∙ ap accepted unused.unowned)

  pub all_quiet : (states : List K) (all : List (W × B)) → AllByRecursion (λ old. IsUnused s (state old)) states
      → BeginAsHandedIn state deals book has_brought states all → AllByRecursion (λ parts. IsQuiet s (book parts.1).seen) all
  all_quiet states [] unused begins = _
  all_quiet [] (one ∷ more) unused begins = let first = begins 0 one refl in absurd (none-some first.0 first.1)
  all_quiet (old ∷ others) (one ∷ more) unused begins =
      let first = begins 0 one refl in
      let at_first : old ≡ first.0 = cc (first.1) in (
        quiet_one first.0 one (subst (λ (k : K). IsUnused s (state k)) at_first unused.0) first.2,
        all_quiet others more unused.1 (λ q parts at. begins (suc q) parts at),
      )
