pub mod Laws
pub mod Checked
pub mod Commutes
pub mod Theorem
pub mod Call
