pub mod Cases
pub mod JobCases
