-- The laws that the proofs of several functions share, and those that crates above cite.
pub mod TextLaws
