-- Laws that belong to no one function.
pub mod Letters
pub mod Spared
