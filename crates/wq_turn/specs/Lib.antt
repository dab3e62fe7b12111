pub mod Owed
pub mod WorkerId
pub mod StopItem
pub mod Steps
pub mod Drained
pub mod Finished
-- what its public clauses cite of the crates below, so that a caller names this crate alone
pub use Rattle.wq_words.specs.History
pub use Rattle.wq_words.specs.Legal
pub use Rattle.wq_words.specs.Headline
pub use Rattle.wq_words.specs.Numbers
pub use Rattle.wq_live.specs.Rest
pub use Rattle.wq_worker.specs.State
pub use Rattle.wq_worker.specs.Seats
pub use Rattle.wq_worker.specs.Step
pub use Rattle.wq_worker.specs.Rows
pub use Rattle.wq_worker.specs.Resting
pub use Rattle.wq_worker.specs.Destroy
