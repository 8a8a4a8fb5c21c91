-- What reading tells, as definitions.
pub mod Came
