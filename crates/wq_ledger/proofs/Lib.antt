pub mod Common
pub mod Meeting
pub mod Pushes
pub mod Summing
pub mod Balancing
pub mod Counts
