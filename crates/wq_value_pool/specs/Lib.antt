-- what its public clauses, and those of its pools, cite of the crates below, so that a caller names this crate alone
pub use Rattle.wq_words.specs.History
pub use Rattle.wq_words.specs.Legal
pub use Rattle.wq_words.specs.Headline
pub use Rattle.wq_words.specs.Numbers
pub use Rattle.wq_words.specs.Seen
pub use Rattle.wq_words.specs.Valued
pub use Rattle.wq_values.specs.KnownWith
pub use Rattle.wq_values.specs.OwnBrought
pub use Rattle.wq_values.specs.Laws
pub use Rattle.wq_worker.specs.State
pub use Rattle.wq_value_worker.specs.ValueState
pub use Rattle.wq_value_worker.specs.Returned
pub use Rattle.wq_turn.specs.WorkerId
pub use Rattle.wq_pool.specs.Known
pub use Rattle.wq_pool.specs.Finished
pub use Rattle.wq_pool.specs.Quiet
