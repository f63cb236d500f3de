pub mod Stamps
pub mod Outdated
