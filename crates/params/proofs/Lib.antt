pub mod Unique
pub mod FoundLaws
pub mod Shows
pub mod EntryLaws
pub mod ModeLaws
