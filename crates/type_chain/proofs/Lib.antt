pub mod ChainLaws
pub mod ChainLemmas
pub mod StepLemmas
pub mod TypeLemmas
