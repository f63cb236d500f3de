pub mod Places
pub mod Decided
pub mod Laws
pub mod Brought
