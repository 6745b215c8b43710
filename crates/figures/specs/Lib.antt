-- What the contracts of `figures`, and of every crate that charges a loop, cite.
pub mod Figures
pub mod Charge
pub mod Sides
