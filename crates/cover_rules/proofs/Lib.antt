pub mod NameLemmas
pub mod PageLemmas
pub mod WalkLemmas
pub mod CoverageLemmas
pub mod TouchLemmas
