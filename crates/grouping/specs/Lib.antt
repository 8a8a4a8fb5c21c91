-- What the driver and the passes in their order ask and ensure, as definitions.
pub mod Driver
pub mod Choice
pub mod Grouped
pub mod Group
