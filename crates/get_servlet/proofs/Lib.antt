pub mod AnswerLemmas
pub mod BytesLemmas
pub mod CountLemmas
pub mod DepthLemmas
pub mod KidLemmas
pub mod ObjectLemmas
pub mod ReadBackLemmas
pub mod WritingLemmas
mod StreamLemmas
