-- Laws that belong to no one function.
pub mod Readiness
pub mod Equal
