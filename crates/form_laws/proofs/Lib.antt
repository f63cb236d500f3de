pub mod SpellingLemmas
pub mod DotLemmas
pub mod DotsAlone
pub mod RelativeNameLemmas
pub mod GoalLemmas
