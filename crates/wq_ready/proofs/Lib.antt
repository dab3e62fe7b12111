pub mod Common
pub mod Legal
pub mod Order
pub mod Seen
pub mod Kept
pub mod Callers
