pub mod Known
pub mod Slots
pub mod Finished
pub mod Views
pub mod Pool
pub mod PoolView
pub mod Finish
pub mod Quiet
-- what its public clauses cite of the crates below, so that a caller names this crate alone
pub use Rattle.wq_words.specs.History
pub use Rattle.wq_words.specs.Legal
pub use Rattle.wq_words.specs.Headline
pub use Rattle.wq_words.specs.Numbers
pub use Rattle.wq_words.specs.Seen
pub use Rattle.wq_worker.specs.State
pub use Rattle.wq_turn.specs.WorkerId
pub use Rattle.wq_live.specs.Laws
