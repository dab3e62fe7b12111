pub mod Words
pub mod Machine
pub mod Made
pub mod Sound
