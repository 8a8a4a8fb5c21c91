-- What the program writes, as definitions.
pub mod LiftedFile
pub mod Steps
pub mod Going
