pub mod Common
pub mod Kept
pub mod Hands
pub mod Gathering
pub mod GoingOn
pub mod Quiet
