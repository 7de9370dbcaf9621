pub mod Sums
pub mod First
pub mod Spans
pub mod Rows
