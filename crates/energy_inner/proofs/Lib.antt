-- The search by runs is the rule's.
pub mod Searching
