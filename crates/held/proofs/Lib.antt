-- The laws of an open list: those that the proofs of several functions share, and what holds after any sequence of calls.
pub mod FaultLaws
pub mod EditLaws
pub mod KeepLaws
pub mod CallLaws
pub mod History
pub mod Running
pub mod Witnesses
