-- The order of the passes by rank, as definitions.
pub mod Ranks
