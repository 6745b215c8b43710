-- Laws that belong to no one function.
pub mod Distances
pub mod OneAnswer
