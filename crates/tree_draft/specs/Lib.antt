pub mod AtOnce
pub mod Drafts
pub mod Edits
pub mod Falls
pub mod Held
pub mod Shown
pub mod Copies
