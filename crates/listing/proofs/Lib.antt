-- The laws that the proofs of several functions share.
pub mod ByteLaws
pub mod RowLaws
pub mod AnswerLaws
