pub mod Sound
pub mod Passes
pub mod FirstLaws
