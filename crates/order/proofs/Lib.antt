-- The laws that the proofs of this crate share, and those that crates above cite.
pub mod Ranking
pub mod Folding
