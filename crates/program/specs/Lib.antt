pub mod Refused
pub mod Words
