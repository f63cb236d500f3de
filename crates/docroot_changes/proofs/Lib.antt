pub mod ToldFiles
pub mod KeptHere
pub mod NextNumber
pub mod CountedNames
pub mod MadeCalls
mod CacheCalls
mod LeadingIn
