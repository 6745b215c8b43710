-- Laws that belong to no one function.
pub mod Halves
pub mod Passes
