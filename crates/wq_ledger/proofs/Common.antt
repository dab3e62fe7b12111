-- The names that several proofs cite, passed on from one place. Declares nothing.
pub use Rattle.std.proofs.Common.{◌≡◌, ℕ, zero, suc, ◌+◌, ◌<◌, ◌≤◌, min, Bool, true, false, cond, not, ◌&&◌, ◌≢◌, List, [], ◌∷◌, ◌++◌, length, get_or, take}
pub use Rattle.std.proofs.Common.{IsSome, nat_lt, ◌==◌, Some, None, All, sum_by, count_by, filter, Option, sym, refl, ap, ◌∙◌, subst, ⊎_elim, add-one, arith}
pub use Rattle.std.proofs.Common.{rules, eq-eqb}
pub use Rattle.std.proofs.lemmas.Bool.{ltb-false, lt-ltb, le-ltb, eqb-true, eqb-false, ltb-true, cases_lt}
pub use Rattle.std.proofs.lemmas.List.Sums.{sum_by-cons}
pub use Rattle.wq_words.specs.declared.layout.Layout.{Layout}
pub use Rattle.wq_words.specs.declared.event.Event.{Event}
pub use Rattle.wq_words.specs.History.{ended, is_push, is_close, IsClosed}
pub use Rattle.wq_words.specs.Legal.{IsLegal, IsComplete, IsAllowed}
pub use Rattle.wq_words.specs.Counting.{capped, is_queued_by, is_chain, is_chain_busy}
pub use Rattle.wq_words.specs.Seen.{Grows, owner_seat}
pub use Rattle.wq_words.proofs.Appended.{accepted-count, count_by-append, count_by-cons}
pub use Rattle.wq_calls.specs.declared.counts.SenderCounts.{SenderCounts}
pub use Rattle.wq_live.specs.Counts.{owner_counts, sender_counts}
pub use Rattle.wq_ledger.specs.declared.totals.Totals.{Totals}
pub use Rattle.wq_ledger.specs.Book.{LedgerState, IsLedgerOf, AreBookParts, BookState, book_of}
pub use Rattle.wq_ledger.specs.Balance.{largest, AreWhole, AreOwnerWhole, ledgers_of, HasOne, HaveOne, met_total, SumsMet, Balances}
pub use Rattle.wq_ledger.specs.Totals.{none, with_sender, with_owner, HasGrown}
