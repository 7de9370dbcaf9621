pub mod Converted
pub mod Converts
pub mod Conversions
