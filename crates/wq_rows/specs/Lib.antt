pub mod Rows
pub mod Found
pub mod Codes
