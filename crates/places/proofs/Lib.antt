pub mod Laws
pub mod SameLaws
