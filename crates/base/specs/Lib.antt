pub mod Limits
pub mod Loop
pub mod Grid
pub mod Refusal
pub mod Answer
pub mod Rows
pub mod F64
pub mod Decimal
