pub mod Meaning
pub mod MeaningLaws
