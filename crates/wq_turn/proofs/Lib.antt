pub mod Common
pub mod Moved
pub mod Steps
pub mod Settled
pub mod Draining
pub mod Kept
