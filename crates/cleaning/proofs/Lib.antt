pub mod Decision
pub mod Choosing
pub mod Storing
pub mod Stepped
pub mod Legal
