-- What the contracts of `energy_search` cite.
pub mod Search
