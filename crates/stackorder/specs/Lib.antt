-- What export and import find, do and promise, as definitions.
pub mod Faults
pub mod Reorder
pub mod Answers
pub mod FaultLaws
