-- Sums of what is written, and refusals by name.
pub mod Refusals
pub mod Totals
