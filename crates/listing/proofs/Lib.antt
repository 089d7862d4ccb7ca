pub mod Finding
pub mod Examining
pub mod Showing
pub mod Joining
pub mod AsOpen
