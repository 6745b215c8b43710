-- What the contracts of pair counting cite.
pub mod Rule
pub mod Allowed
pub mod Counts
