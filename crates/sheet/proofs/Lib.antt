-- The bench sheet's proved lines.
pub mod Counts
pub mod Energies
pub mod Vectors
pub mod Table
