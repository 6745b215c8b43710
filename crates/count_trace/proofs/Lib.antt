-- Laws that belong to no one function.
pub mod Choosing
pub mod Tracing
pub mod Reached
pub mod Same
