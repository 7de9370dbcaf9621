pub mod Scans
pub mod Passing
pub mod RowLaws
pub mod Bounds
pub mod Turns
