-- What the programs read and print of a list, as definitions.
pub mod Rows
pub mod Lists
