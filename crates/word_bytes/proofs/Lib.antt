pub mod WordLaws
pub mod PutLaws
