pub mod Case
pub mod BlockCases
pub mod StoreCases
pub mod EndCases
pub mod FeedCases
