pub mod MeasureLaws
pub mod HeadLaws
