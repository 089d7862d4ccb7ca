pub mod Cases
pub mod FeedCases
