-- The laws that the proofs of several functions share, and those that crates above cite.
pub mod WalkLaws
pub mod OrderLaws
pub mod ShapeLaws
pub mod RowLaws
pub mod CaseLaws
