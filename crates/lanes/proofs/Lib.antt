pub mod Unique
pub mod LaneLaws
pub mod BlockLaws
