-- What the contracts of the least-energy fold cite.
pub mod Rule
pub mod Bounds
pub mod Memory
pub mod Meaning
pub mod Filled
