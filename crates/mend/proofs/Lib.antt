pub mod ItemLaws
pub mod WriteLaws
pub mod CallLaws
