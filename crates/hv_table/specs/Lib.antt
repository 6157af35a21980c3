pub mod Decimal
pub mod Rows
