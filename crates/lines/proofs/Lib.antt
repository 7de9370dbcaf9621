pub mod MarkLaws
pub mod StretchLaws
