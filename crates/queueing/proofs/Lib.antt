pub mod Refusals
pub mod Areas
pub mod Places
