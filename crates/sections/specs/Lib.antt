-- What the flat passes ask and ensure, as definitions.
pub mod Flat
pub mod Matching
