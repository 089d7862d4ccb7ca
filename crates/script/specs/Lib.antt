pub mod Digest
pub mod Fills
pub mod Commands
pub mod Lines
pub mod Meant
