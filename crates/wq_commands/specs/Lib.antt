pub mod Report
pub mod ScheduleReport
pub mod Judged
