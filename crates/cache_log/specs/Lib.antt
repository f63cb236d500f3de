pub mod Limits
pub mod Entries
pub mod Hits
pub mod Flown
pub mod Rules
pub mod Laws
