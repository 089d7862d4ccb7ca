pub mod Testing
pub mod OwnLog
pub mod Turning
pub mod Committing
pub mod Deciding
