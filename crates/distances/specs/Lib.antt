-- What the contracts of `distances` cite.
pub mod Distance
