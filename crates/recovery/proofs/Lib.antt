pub mod Scanning
pub mod Groups
pub mod Ordering
pub mod Changing
pub mod Turning
pub mod Leading
