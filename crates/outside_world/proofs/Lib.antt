pub mod Openings
pub mod News
pub mod ComingLemmas
pub mod Opened
