-- The laws that the proofs of several functions share.
pub mod FaultLaws
pub mod Orders
pub mod Standing
pub mod ReorderLaws
pub mod EntryLaws
