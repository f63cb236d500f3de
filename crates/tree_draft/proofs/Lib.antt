pub mod DraftLemmas
pub mod OrderLemmas
pub mod CreateLemmas
pub mod MoveLemmas
pub mod FallLemmas
pub mod LentLemmas
pub mod AtOnceLemmas
