-- What the contracts of filling cite.
pub mod Filled
pub mod Believable
pub mod Passes
