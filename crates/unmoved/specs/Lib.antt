pub mod Unmoved
pub mod Remains
pub mod Apart
