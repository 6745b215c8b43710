-- What the contracts of every traceback cite.
pub mod Writing
