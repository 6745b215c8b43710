-- The laws of the passes over a column (Passes), and what these make of it (Ruled).
pub mod Passes
pub mod Ruled
