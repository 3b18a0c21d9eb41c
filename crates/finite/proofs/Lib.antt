pub mod Prepared
pub mod Runs
pub mod Answers
pub mod Jobs
pub mod Found
pub mod Theorem
