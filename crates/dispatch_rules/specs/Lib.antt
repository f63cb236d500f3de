pub mod UrlParts
pub mod Admission
pub mod Caching
pub mod Asking
pub mod RequestParts
