-- Laws of edit histories.
pub mod Keeping
pub mod Histories
pub mod Elsewhere
