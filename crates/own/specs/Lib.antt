-- A list read at its own used set, as a definition.
pub mod Own
