-- The theorems of the count, and the laws that the proofs of several functions share.
pub mod ByteLaws
pub mod Adding
pub mod Cutting
pub mod Stands
pub mod JudgeLaws
pub mod CloseLaws
pub mod StepLaws
pub mod FeedLaws
pub mod FinishLaws
pub mod InputLaws
