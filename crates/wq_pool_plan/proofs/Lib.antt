pub mod Common
pub mod Seats
pub mod Done
pub mod Summed
pub mod Sent
