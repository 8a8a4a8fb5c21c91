-- The laws that the proofs of several functions share, and those that crates above cite.
pub mod Runs
pub mod Loading
pub mod Linking
pub mod NodeWords
pub mod Emitting
pub mod Copying
