pub mod Changes
pub mod Damage
