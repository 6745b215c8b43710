-- What the contracts of `closing`, and of every fold, cite.
pub mod Closing
