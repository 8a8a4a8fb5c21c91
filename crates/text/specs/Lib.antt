-- Text as bytes, as definitions.
pub mod Text
