pub mod Sites
pub mod Drafts
pub mod Soaks
