-- What loading and emission ask and ensure, as definitions.
pub mod Load
pub mod Emit
