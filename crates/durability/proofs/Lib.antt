pub mod Same
pub mod Asked
pub mod Durable
pub mod CopyDurable
