pub mod Short
pub mod Flags
