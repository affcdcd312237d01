mod BlockCountLemmas
mod BlockLemmas
mod JudgementLemmas
mod PlainLemmas
pub mod WindowFacts
