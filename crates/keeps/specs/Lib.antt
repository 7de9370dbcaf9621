pub mod CaseOf
