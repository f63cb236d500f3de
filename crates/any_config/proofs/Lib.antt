pub mod TokenLemmas
pub mod Turns
pub mod HostLemmas
pub mod Progress
pub mod Sound
pub mod Complete
pub mod FaultLemmas
pub mod EntryLemmas
