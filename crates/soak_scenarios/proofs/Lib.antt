pub mod Texts
pub mod Draws
