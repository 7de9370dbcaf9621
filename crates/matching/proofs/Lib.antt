pub mod Laws
pub mod HighLaws
pub mod ReadLaws
