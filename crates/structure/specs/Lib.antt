-- What the contracts of `structure` cite.
pub mod Table
pub mod Soundness
pub mod Walking
