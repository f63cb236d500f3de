pub mod Given
pub mod Heard
