pub mod Invalidations
pub mod Slices
pub mod Walks
pub mod FaultTexts
