pub mod Fault
pub mod Grammar
pub mod Read
pub mod Steps
pub mod Tokens
pub mod FaultTexts
