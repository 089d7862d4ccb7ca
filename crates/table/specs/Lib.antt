pub mod Search
pub mod Table
pub mod Seats
