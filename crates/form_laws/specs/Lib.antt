pub mod Spelling
pub mod DotSegments
pub mod RelativeNames
