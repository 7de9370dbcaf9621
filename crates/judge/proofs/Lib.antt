pub mod DueLaws
pub mod TokenLaws
pub mod CallLaws
