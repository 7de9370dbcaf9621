pub mod BitLaws
pub mod CountLaws
pub mod MarkLaws
pub mod SettleLaws
