-- When words are one tree, and what the loops over them have seen, as definitions.
pub mod Answers
pub mod Shaped
pub mod Seen
pub mod Walks
pub mod Trees
pub mod TreeLaws
