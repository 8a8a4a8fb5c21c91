-- The laws that the proofs of several functions share, and that what is told is the definition's lift.
pub mod CallLaws
pub mod Within
pub mod Lifted
pub mod EntryLaws
