-- What the lift of a list over lent buffers promises, as definitions.
pub mod Lifting
pub mod Answers
pub mod Entry
