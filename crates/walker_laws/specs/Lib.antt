-- The rule of luma mode B, and what may move.
pub mod Around
pub mod Chroma
pub mod Moves
