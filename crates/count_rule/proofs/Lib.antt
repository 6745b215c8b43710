-- Laws that belong to no one function.
pub mod Laws
pub mod Ruling
pub mod Optimal
pub mod Filling
