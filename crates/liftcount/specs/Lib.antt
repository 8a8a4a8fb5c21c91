-- What the program counts and prints, as definitions.
pub mod Counting
pub mod Running
pub mod Judging
pub mod Steps
