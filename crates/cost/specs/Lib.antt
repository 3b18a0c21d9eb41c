pub mod Cost
