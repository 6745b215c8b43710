-- What the contracts and the theorems of the edits of a pair count cite.
pub mod Checks
pub mod Calls
pub mod Histories
