-- The laws of searches.
pub mod First
