-- What the contracts of `energy_reach` cite.
pub mod Reach
