-- The laws of rows of checks.
pub mod Laws
