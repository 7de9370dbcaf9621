pub mod Walk
pub mod Call
pub mod Low
pub mod Laid
