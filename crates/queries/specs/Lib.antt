-- What the contracts of `queries` cite.
pub mod Calls
