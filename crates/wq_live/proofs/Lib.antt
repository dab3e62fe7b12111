pub mod Common
pub mod Alone
pub mod Made
pub mod PlainPaired
