-- What the contracts of every fold cite of its sequence.
pub mod Sequences
