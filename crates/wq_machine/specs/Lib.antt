pub mod Refusal
pub mod Schedule
pub mod Stored
pub mod Keeper
-- what its public clauses cite of the crates below, so that a caller names this crate alone
pub use Rattle.wq_words.specs.History
pub use Rattle.wq_words.specs.Legal
pub use Rattle.wq_words.specs.Headline
pub use Rattle.wq_words.specs.Numbers
pub use Rattle.wq_core.specs.Machine
pub use Rattle.wq_core.specs.Words
pub use Rattle.wq_core.specs.Sound
pub use Rattle.wq_core.specs.Made
