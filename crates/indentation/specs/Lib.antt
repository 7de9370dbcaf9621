pub mod Of
pub mod Count
