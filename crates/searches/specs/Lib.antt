-- What the contracts of every search cite.
pub mod First
