pub mod Teams
pub mod Race
pub mod Outcome
pub mod RaceReport
