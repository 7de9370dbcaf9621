pub mod Readable
pub mod Run
pub mod Seen
