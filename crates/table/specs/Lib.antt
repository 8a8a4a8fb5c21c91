-- The text of a line, the words that a mark and its items stand for, and what a line says of its calls and their answers, as definitions.
pub mod Said
pub mod Marked
pub mod Asked
pub mod Answers
