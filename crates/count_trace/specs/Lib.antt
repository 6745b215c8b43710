-- What the contracts of the traceback cite.
pub mod Choosing
pub mod Reading
pub mod Trace
