pub mod Unique
pub mod SameLaws
pub mod LongestLaws
pub mod FlagLaws
