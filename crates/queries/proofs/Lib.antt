-- Laws that belong to no one function.
pub mod Listing
pub mod OneAnswer
