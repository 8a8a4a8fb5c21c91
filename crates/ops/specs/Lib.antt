-- What the code's numbers say of operators and classes, as definitions.
pub mod Classes
pub mod Constants
pub mod Operators
