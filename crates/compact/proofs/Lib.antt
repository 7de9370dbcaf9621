pub mod PlaceLaws
pub mod CoverLaws
pub mod WriteLaws
