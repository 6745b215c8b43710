-- What the contract and the theorems of the pair-count fold cite.
pub mod Checks
pub mod Calls
pub mod Greatest
