pub mod Tests
pub mod Summed
pub mod Verdicts
