pub mod Claims
pub mod Scripts
pub mod Telling
pub mod FaultTexts
