-- Whether the calls of a line are answered as it says, as definitions.
pub mod Verdicts
