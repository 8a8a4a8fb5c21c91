-- The laws that the proofs of several functions share, and what all steps print, and the whole of a run.
pub mod PartLaws
pub mod NumberLaws
pub mod HeadLaws
pub mod KeptLaws
pub mod ListLaws
pub mod StepLaws
pub mod Prints
pub mod InputLaws
