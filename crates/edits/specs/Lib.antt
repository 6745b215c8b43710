-- What the statements on histories of edits cite, for every kind of fold.
pub mod Edits
pub mod Runs
pub mod Kinds
