pub mod Laws
pub mod Placeholder
pub mod ByValue
