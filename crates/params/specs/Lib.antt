pub mod Entries
pub mod Found
