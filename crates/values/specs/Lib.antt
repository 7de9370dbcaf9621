pub mod On
pub mod Comma
