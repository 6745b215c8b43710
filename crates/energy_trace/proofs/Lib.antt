-- Laws that belong to no one function.
pub mod Moving
pub mod Reached
pub mod Kept
pub mod Same
pub mod Whole
pub mod Readiness
pub mod Tracing
