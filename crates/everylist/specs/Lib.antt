-- What the program prints, as definitions.
pub mod EveryList
pub mod Steps
pub mod Input
