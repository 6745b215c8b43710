-- What the contracts of `bases`, and of every crate that reads a base, cite.
pub mod Bases
