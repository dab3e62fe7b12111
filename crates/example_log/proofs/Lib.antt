pub mod Lines
pub mod Messages
pub mod Turned
