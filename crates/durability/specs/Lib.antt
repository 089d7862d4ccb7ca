pub mod Called
pub mod Durable
pub mod CopyCalled
pub mod CopyDurable
