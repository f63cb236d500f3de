pub mod StepLemmas
pub mod ApartLemmas
pub mod FrameLemmas
pub mod PropertyLemmas
pub mod SetLemmas
pub mod GoneLemmas
pub mod BroughtLemmas
