-- The neighbour record as 81 bytes.
pub mod Bytes
pub mod Steps
