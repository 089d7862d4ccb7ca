pub mod Gathering
pub mod Ending
pub mod Lending
pub mod Reading
pub mod Answering
pub mod Keeping
pub mod CopyAnswering
