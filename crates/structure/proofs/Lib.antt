-- Laws that belong to no one function.
pub mod Folds
pub mod Counts
pub mod Levels
pub mod Checking
pub mod Fronts
