pub mod Publishers
pub mod States
pub mod Points
pub mod Named
pub mod Moves
pub mod Restarts
pub mod Causes
pub mod Events
