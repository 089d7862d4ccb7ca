pub mod Marking
pub mod Turning
pub mod Alike
