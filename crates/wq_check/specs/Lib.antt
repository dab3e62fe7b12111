pub mod Left
pub mod Causes
pub mod Report
pub mod Checked
pub mod Trace
pub mod Shows
pub mod MarkCauses
pub mod TraceReport
pub mod TraceChecked
-- what its public clauses cite of the crates below, so that a caller names this crate alone
pub use Rattle.wq_words.specs.Numbers
pub use Rattle.wq_words.specs.Legal
pub use Rattle.wq_words.specs.History
pub use Rattle.wq_words.specs.Counting
