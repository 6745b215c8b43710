-- The theorems of the pair-count fold.
pub mod Accepted
pub mod MostPairs
pub mod OneAnswer
pub mod Spare
