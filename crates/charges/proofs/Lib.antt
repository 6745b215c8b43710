-- The laws of walks along a span (Walk), of pairs that may not close a loop (Barred), of a loop's charge (Charged) and of opening places (Openings), and a table of kinds (KindTable).
pub mod Walk
pub mod Barred
pub mod Charged
pub mod Openings
pub mod KindTable
