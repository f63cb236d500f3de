pub mod Split
pub mod Spelling
pub mod Walk
