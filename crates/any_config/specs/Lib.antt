pub mod Tokens
pub mod Read
pub mod Farms
pub mod Grammar
pub mod Faults
pub mod FaultTexts
