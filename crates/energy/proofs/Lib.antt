-- The theorems of the public energy fold.
pub mod Accepted
pub mod LeastEnergy
pub mod OneAnswer
pub mod Spare
