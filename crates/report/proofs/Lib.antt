pub mod TrimLaws
pub mod ReportLaws
