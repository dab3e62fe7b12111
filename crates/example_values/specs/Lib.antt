pub mod Messages
pub mod Met
pub mod Sums
