-- The laws of signed numbers: orders and sums by `omega ints`, the least of a run, the bounds of a table.
pub mod Ints
pub mod Minima
pub mod Tables
