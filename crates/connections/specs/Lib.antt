pub mod Ids
pub mod Slots
pub mod Connections
pub mod Histories
pub mod AnswerQueues
