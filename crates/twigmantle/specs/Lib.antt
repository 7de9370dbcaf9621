pub mod Called
pub mod Once
pub mod Enough
