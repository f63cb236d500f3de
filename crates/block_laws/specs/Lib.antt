pub mod Together
pub mod PartKinds
pub mod TagStatements
pub mod ShownTags
