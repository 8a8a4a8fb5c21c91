-- Every short list of an alphabet, as definitions.
pub mod ShortLists
pub mod Answers
pub mod Digits
