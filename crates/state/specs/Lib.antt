pub mod Words
pub mod Below
pub mod Of
