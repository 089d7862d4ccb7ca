pub mod Log
pub mod Order
pub mod Slots
pub mod Walking
