pub mod Failure
pub mod Ending
