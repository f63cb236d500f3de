pub mod CutLemmas
pub mod EntryLemmas
mod AskLemmas
