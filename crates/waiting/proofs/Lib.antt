pub mod Chain
pub mod Served
pub mod Tried
