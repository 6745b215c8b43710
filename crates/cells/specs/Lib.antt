-- What the contracts of every crate that fills a triangle cite.
pub mod Tri
pub mod Rule
pub mod Fill
pub mod Solve
pub mod Pass
