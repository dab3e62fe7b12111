pub mod Common
pub mod Fitting
pub mod Schedules
pub mod Stored
pub mod Kept
