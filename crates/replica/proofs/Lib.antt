pub mod Held
pub mod Taking
pub mod Closing
pub mod Cleaning
pub mod Passing
