-- What the contracts of every call from a record cite.
pub mod Checks
