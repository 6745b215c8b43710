-- The laws of believable records.
pub mod Believable
