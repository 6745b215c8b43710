-- What the contracts of the energy fold cite.
pub mod Checks
pub mod Calls
pub mod Minimal
