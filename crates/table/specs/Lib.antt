pub mod Facts
pub mod Table
