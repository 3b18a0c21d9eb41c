pub mod Correlate
