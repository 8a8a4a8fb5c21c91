-- The laws that the proofs of several functions share, and those that crates above cite.
pub mod OperatorLaws
pub mod BitLaws
pub mod ClassLaws
pub mod Constants
pub mod SetLaws
pub mod VersionLaws
