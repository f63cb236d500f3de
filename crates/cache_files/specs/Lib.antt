pub mod Epochs
pub mod Pages
pub mod HeldStamps
pub mod Changes
pub mod FaultTexts
