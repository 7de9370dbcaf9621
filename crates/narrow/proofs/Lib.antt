pub mod Unique
pub mod NarrowLaws
pub mod MeaningLaws
