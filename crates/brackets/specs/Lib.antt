-- What the contracts of `brackets` cite.
pub mod Brackets
pub mod Text
pub mod Calls
pub mod Parsing
