-- What the parse entry and its parts ask and ensure, as definitions.
pub mod Records
pub mod Reports
pub mod Answers
pub mod Fills
