pub mod Globs
pub mod Reading
pub mod Spelling
pub mod Runs
pub mod Forms
pub mod Rules
pub mod FaultTexts
