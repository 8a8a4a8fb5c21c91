-- The laws that the proofs of several functions share, and those that crates above cite.
pub mod States
pub mod PassClasses
pub mod Reading
pub mod Ended
pub mod Seeking
