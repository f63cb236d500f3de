pub mod DepthLemmas
pub mod NamingLemmas
pub mod PlaceLemmas
pub mod RankLemmas
pub mod SearchLemmas
pub mod ScriptPlaceLemmas
pub mod ListedLemmas
pub mod TextLemmas
