-- The laws that the proofs of several functions share, and those that crates above cite.
pub mod FieldLaws
pub mod CheckLaws
pub mod RecordLaws
pub mod LaidLaws
pub mod TreeLaws
