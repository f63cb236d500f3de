pub mod MatchLemmas
pub mod RunLemmas
pub mod CharLemmas
pub mod RuleLemmas
pub mod ReadLemmas
pub mod SpellingLemmas
pub mod FormLemmas
