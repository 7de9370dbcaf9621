pub mod JoinLaws
pub mod LongLaws
pub mod ShortLaws
