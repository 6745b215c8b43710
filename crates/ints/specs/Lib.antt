-- What contracts on signed numbers and on energies cite.
pub mod Ints
