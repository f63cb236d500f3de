mod FieldFound
mod RequestBlockLemmas
pub mod PropertyLemmas
pub mod PathLemmas
pub mod TypedLemmas
pub mod PathText
pub mod PathOrder
pub mod PathFaults
pub mod PathParts
pub mod PathPrefixes
pub mod PathRest
pub mod MangledLemmas
pub mod TextBytes
pub mod PathBytes
pub mod BoolLemmas
pub mod ListLemmas
pub mod NatLemmas
pub mod OptionLemmas
pub mod OrderingLemmas
pub mod PathTests
pub mod ResultLemmas
pub mod TextLemmas
