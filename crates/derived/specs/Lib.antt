-- The exact used set and the highest span end of a list, as definitions.
pub mod Derived
