pub mod PlaceLemmas
pub mod QueueLemmas
pub mod HistoryLemmas
pub mod TurnLemmas
pub mod DigitLemmas
pub mod FixedLemmas
pub mod RestLemmas
pub mod HitLemmas
