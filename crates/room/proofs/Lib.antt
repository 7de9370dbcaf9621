pub mod ValueLaws
pub mod TokenLaws
pub mod SumLaws
pub mod CallLaws
