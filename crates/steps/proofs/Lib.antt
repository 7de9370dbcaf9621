pub mod Unique
pub mod ArrayLaws
pub mod StepLaws
