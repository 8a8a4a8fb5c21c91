-- What the checks of a call find, as definitions.
pub mod Accepting
