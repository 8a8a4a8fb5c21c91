-- An open list, as definitions.
pub mod Held
pub mod Histories
pub mod Answers
pub mod Runs
pub mod Editing
