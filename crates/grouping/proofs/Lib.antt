-- The laws that the proofs of several functions share.
pub mod FlatOrder
pub mod SideLaws
pub mod StackLaws
pub mod StartLaws
pub mod ResumeLaws
pub mod EndLaws
pub mod Lasting
pub mod DescendLaws
pub mod OutermostLaws
pub mod CloseLaws
pub mod AdvanceLaws
pub mod RunLaws
pub mod GateLaws
pub mod LevelLaws
