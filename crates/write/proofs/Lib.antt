-- The laws that the proofs of several functions share.
pub mod JudgeLaws
pub mod SpellLaws
pub mod StepLaws
pub mod SpineLaws
pub mod EntryLaws
pub mod ReaderLaws
pub mod RootLaws
pub mod StatementLaws
