pub mod Answer
pub mod Report
pub mod Queueing
pub mod Execution
pub mod Arming
pub mod Names
pub mod Commands
pub mod Order
pub mod Replies
pub mod ScheduleOutput
pub mod ScheduleHistory
-- what its public clauses cite of the crates below, so that a caller names this crate alone
pub use Rattle.wq_words.specs.Legal
pub use Rattle.wq_core.specs.Machine
pub use Rattle.wq_core.specs.Made
pub use Rattle.wq_text.specs.Script
pub use Rattle.wq_text.specs.Schedule
