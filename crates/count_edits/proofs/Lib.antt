-- The theorems of the edits of a pair count, and of the traceback from its record.
pub mod Accepted
pub mod OneAnswer
pub mod Good
pub mod Fresh
pub mod Honest
pub mod Elsewhere
pub mod Spare
