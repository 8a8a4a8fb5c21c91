-- The words of the format as the code reads and makes them, as definitions.
pub mod Fields
pub mod Refusals
pub mod Checks
pub mod Records
pub mod Tokens
pub mod Extents
