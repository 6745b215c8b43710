-- The bench sheet's proved lines.
pub mod Lines
