-- How far two planes are from each other.
pub mod Apart
pub mod Sums
