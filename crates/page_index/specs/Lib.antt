pub mod Limits
pub mod AnswerHeads
pub mod Held
pub mod Notes
pub mod Effects
pub mod Agreement
pub mod NotedFiles
