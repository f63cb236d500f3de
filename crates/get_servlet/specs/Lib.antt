pub mod Rendering
pub mod Answers
pub mod Streams
pub mod Objects
pub mod Steps
