mod InclusionLemmas
mod DepthLemmas
mod LimitLemmas
