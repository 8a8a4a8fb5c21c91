-- What the program prints, as definitions.
pub mod Listing
pub mod Input
