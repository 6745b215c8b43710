-- Laws of the text of answers.
pub mod Putting
pub mod Digits
pub mod Texts
