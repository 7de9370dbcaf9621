pub mod Unique
pub mod PutLaws
pub mod HeldLaws
pub mod AppendLaws
pub mod CutLaws
pub mod EightLaws
pub mod LineLaws
pub mod WorkLaws
