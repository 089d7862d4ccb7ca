pub mod Shifts
pub mod Leaving
