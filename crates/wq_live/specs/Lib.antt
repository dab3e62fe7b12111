pub mod Alone
pub mod Pair
-- what its public clauses cite of the crates below, so that a caller names this crate alone
pub use Rattle.wq_words.specs.History
pub use Rattle.wq_words.specs.Legal
pub use Rattle.wq_words.specs.Headline
pub use Rattle.wq_words.specs.Numbers
pub use Rattle.wq_words.specs.Seen
pub use Rattle.wq_calls.specs.Known
pub use Rattle.wq_calls.specs.Batch
pub use Rattle.wq_calls.specs.Counts
pub use Rattle.wq_calls.specs.Answers
pub use Rattle.wq_calls.specs.Rest
pub use Rattle.wq_calls.specs.Laws
pub use Rattle.wq_calls.specs.Pairs
