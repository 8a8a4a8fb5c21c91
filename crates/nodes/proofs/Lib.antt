-- The laws that the proofs of several functions share, and those that crates above cite.
pub mod Runs
pub mod Tokens
pub mod Store
pub mod Classes
pub mod Trees
pub mod Taking
pub mod Giving
pub mod Stores
pub mod Keeping
