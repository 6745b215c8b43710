-- What the contracts of every crate cite when they speak of refusals.
pub mod Refusals
