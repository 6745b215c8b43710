-- The laws by which the crates above know bases: their definitions stay shut there.
pub mod Laws
