mod Tags
pub mod Parts
mod Trimmed
mod Runs
mod Steps
mod Balance
mod Turns
pub mod Values
pub mod Plain
pub mod Split
mod Spelled
mod FirstFault
pub mod SheetLemmas
pub mod LookedAt
pub mod Bounded
pub mod SheetSteps
pub mod ElementLemmas
pub mod WrittenLemmas
pub mod ElementSteps
pub mod PieceLemmas
pub mod RoomLemmas
