pub mod History
pub mod Legal
pub mod Order
pub mod Seen
pub mod Known
pub mod Answers
pub mod Rule
pub mod Views
