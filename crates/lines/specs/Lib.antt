-- What the contracts on the text of answers cite.
pub mod Text
