-- The laws that the proofs of several functions share, and what is shown of the lifted file.
pub mod PutLaws
pub mod CutLaws
pub mod JudgeLaws
pub mod StepLaws
pub mod GoingLaws
pub mod RunLaws
