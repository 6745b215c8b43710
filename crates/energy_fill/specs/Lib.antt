-- What the contracts of filling energy cells cite.
pub mod Filled
pub mod Passes
