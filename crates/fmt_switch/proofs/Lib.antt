pub mod Unique
pub mod Table
pub mod Laws
