-- The laws that the proofs of several functions share.
pub mod CallLaws
pub mod BesideLaws
