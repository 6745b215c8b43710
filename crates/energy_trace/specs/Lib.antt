-- What the contracts of the tracebacks cite.
pub mod Choosing
pub mod Trace
