pub mod Blocks
pub mod Packing
pub mod Applied
pub mod Committing
pub mod Decision
pub mod Stepped
pub mod Legal
