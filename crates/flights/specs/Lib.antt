pub mod ClearPages
pub mod Flights
pub mod Landings
pub mod FaultTexts
