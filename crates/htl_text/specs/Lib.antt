pub mod Template
pub mod Spelling
pub mod FaultTexts
