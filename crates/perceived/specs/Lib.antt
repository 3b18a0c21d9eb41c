pub mod Perceived
