pub mod SplitLemmas
pub mod ValueLemmas
pub mod WalkLemmas
pub mod SpellingLemmas
pub mod StartLemmas
pub mod LongLemmas
