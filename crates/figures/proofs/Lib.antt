-- The laws of charges (Charges), and of charges by sides (Flanks).
pub mod Charges
pub mod Flanks
