pub mod ArrayLemmas
pub mod DepthLemmas
