pub mod Scans
pub mod LookUps
pub mod Entries
pub mod FrameBytes
pub mod Holding
pub mod Applying
pub mod Seating
