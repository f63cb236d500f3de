pub mod Types
pub mod Chain
pub mod Steps
pub mod ScriptPlaces
