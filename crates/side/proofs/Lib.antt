pub mod Unique
pub mod SideLaws
