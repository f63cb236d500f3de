pub mod Worlds
pub mod Comings
pub mod Faults
pub mod InputFiles
pub mod WorldMemory
pub mod InputMemory
pub mod FaultTexts
