pub mod Seats
pub mod Made
pub mod Sent
pub mod Owned
pub mod Words
pub mod Sums
-- what its public clauses cite of the crates below, so that a caller names this crate alone
pub use Rattle.wq_words.specs.History
pub use Rattle.wq_words.specs.Legal
pub use Rattle.wq_words.specs.Numbers
pub use Rattle.wq_live.specs.Known
pub use Rattle.wq_live.specs.Answers
pub use Rattle.wq_live.specs.Batch
pub use Rattle.wq_live.specs.Counts
pub use Rattle.wq_ledger.specs.Balance
