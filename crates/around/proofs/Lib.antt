pub mod Run
pub mod Readable
pub mod Lists
pub mod Values
pub mod Asked
pub mod Neighbours
