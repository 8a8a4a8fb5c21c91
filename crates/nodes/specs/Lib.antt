-- How forests stand in the work buffer, and what the functions on it ask and ensure, as definitions.
pub mod Store
pub mod Stored
pub mod Slots
pub mod Children
pub mod Frames
