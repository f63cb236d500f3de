pub mod NameLemmas
pub mod NumberLemmas
pub mod FreeLemmas
pub mod PathLemmas
pub mod WayLemmas
pub mod GoodLemmas
pub mod CauseLemmas
