pub mod Foreign
pub mod Judgings
pub mod Walk
pub mod Judges
