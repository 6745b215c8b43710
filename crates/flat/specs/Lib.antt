-- How answers are flattened for C.
pub mod Flat
