pub mod Laws
pub mod OpeningLaws
pub mod ClosingLaws
