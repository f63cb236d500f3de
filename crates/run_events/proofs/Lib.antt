pub mod NoteLemmas
pub mod StillEvents
