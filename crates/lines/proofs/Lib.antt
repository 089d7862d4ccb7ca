pub mod Decimal
pub mod Adding
