pub mod Totals
pub mod Book
pub mod Balance
-- what its public clauses cite of the crates below, so that a caller names this crate alone
pub use Rattle.wq_words.specs.History
pub use Rattle.wq_words.specs.Legal
pub use Rattle.wq_words.specs.Headline
pub use Rattle.wq_words.specs.Seen
pub use Rattle.wq_live.specs.Known
pub use Rattle.wq_live.specs.Counts
pub use Rattle.wq_live.specs.Laws
