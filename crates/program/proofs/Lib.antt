pub mod Input
pub mod Unique
