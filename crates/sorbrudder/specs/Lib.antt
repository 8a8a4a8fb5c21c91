-- The exports' answers as numbers, and their promises, as definitions.
pub mod Numbers
pub mod Holding
pub mod Exports
pub mod Lifting
