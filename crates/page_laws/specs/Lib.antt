pub mod Inclusions
pub mod Limits
pub mod Slashes
