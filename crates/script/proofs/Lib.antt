pub mod Filled
pub mod Spelled
pub mod Parsed
pub mod Samples
pub mod WholeLine
