pub mod PartLaws
pub mod SameLaws
pub mod RunLaws
pub mod FindLaws
