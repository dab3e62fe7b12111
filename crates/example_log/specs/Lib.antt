pub mod Sent
pub mod Text
pub mod Writing
pub mod Written
