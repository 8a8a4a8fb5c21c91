-- The laws that the proofs of several functions share.
pub mod Bounds
pub mod HoldingLaws
pub mod Fields
pub mod Exporting
pub mod LiftingLaws
pub mod Counts
