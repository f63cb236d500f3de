pub mod Turns
pub mod Served
pub mod Hands
pub mod Steps
pub mod TurnParts
pub mod Totals
pub mod Beginnings
