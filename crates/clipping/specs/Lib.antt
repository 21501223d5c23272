-- Sums that pass 0 or 255, counted.
pub mod Clipped
