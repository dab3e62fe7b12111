pub mod Rings
pub mod Rows
pub mod Delay
-- what its public clauses cite of the crates below, so that a caller names this crate alone
pub use Rattle.wq_words.specs.History
pub use Rattle.wq_words.specs.Headline
pub use Rattle.wq_words.specs.Seen
pub use Rattle.wq_words.specs.Limits
pub use Rattle.wq_words.specs.DelayTable
pub use Rattle.wq_words.specs.Armed
pub use Rattle.wq_calls.specs.Known
pub use Rattle.wq_calls.specs.Answers
