-- The laws of the energy cells: the rule's parts on any table (Parts), the rule among cell rules (Ruling), right tables by their candidates (Laws), what a span
-- costs under another table or other bases (Moved), the lower bound (Optimal), the steps of a traceback (Steps) and structures built by them (Built), what cells mean (Meaning), and
-- which numbers they hold (Bounds).
pub mod Parts
pub mod Ruling
pub mod Laws
pub mod Moved
pub mod Optimal
pub mod Steps
pub mod Built
pub mod Meaning
pub mod Bounds
