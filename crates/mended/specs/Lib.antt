pub mod Mended
pub mod Mends
pub mod Mendings
