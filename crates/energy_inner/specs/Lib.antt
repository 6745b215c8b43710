-- What the contracts of the search for an inner pair cite.
pub mod Search
