-- What the contracts of `charges`, and of every crate that charges a structure, cite.
pub mod Loops
