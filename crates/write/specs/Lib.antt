-- What the write entry and its parts ask and ensure, as definitions.
pub mod Answers
pub mod Seats
pub mod Reading
pub mod Spelling
pub mod Scripts
pub mod Spine
