-- What the functions of the levels ask and ensure, as definitions.
pub mod TokenTurns
pub mod Calls
pub mod Binary
pub mod Statements
pub mod Arrays
pub mod Unary
pub mod Conditional
