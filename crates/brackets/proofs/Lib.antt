-- Laws that belong to no one function.
pub mod Glyphs
pub mod Scan
pub mod Stack
pub mod OneAnswer
pub mod RoundTrip
