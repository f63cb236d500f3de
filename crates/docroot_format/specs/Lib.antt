pub mod Names
pub mod Texts
pub mod Readings
pub mod Faults
pub mod Deletions
pub mod FaultTexts
