-- The laws that the proofs of several functions share.
pub mod AskedLaws
pub mod InputLaws
