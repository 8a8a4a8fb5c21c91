-- What the driver and the levels promise each other, as definitions.
pub mod Passes
pub mod Items
pub mod Sides
pub mod Failures
pub mod Turns
