pub mod Location
