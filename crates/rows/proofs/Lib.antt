pub mod ReadLaws
pub mod Order
pub mod Back
pub mod WalkLaws
pub mod RowLaws
