pub mod Team
pub mod Sends
pub mod Race
pub mod Outcome
-- what its public clauses cite of the crates below, so that a caller names this crate alone
pub use Rattle.wq_words.specs.History
pub use Rattle.wq_words.specs.Legal
pub use Rattle.wq_words.specs.Seen
pub use Rattle.wq_words.specs.Counting
pub use Rattle.wq_calls.specs.Known
pub use Rattle.wq_ledger.specs.Book
pub use Rattle.wq_ledger.specs.Balance
