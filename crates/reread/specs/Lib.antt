-- What the three calls of demand 3 promise, as definitions.
pub mod Answers
pub mod Promises
