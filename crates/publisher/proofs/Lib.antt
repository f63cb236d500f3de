pub mod DepthLemmas
pub mod ChoiceLemmas
pub mod PageLemmas
pub mod PageSteps
pub mod PageAnswers
pub mod RenderingLemmas
pub mod ScriptLaw
pub mod KeptLemmas
pub mod StatusLemmas
pub mod ForgetLemmas
pub mod FirstLemmas
pub mod PostLemmas
pub mod ReportLemmas
pub mod SeenAloneLemmas
pub mod GoodLemmas
pub mod CauseLemmas
mod KindLemmas
pub mod CaseLemmas
