-- One macroblock drawn at its place in a picture's planes.
pub mod Placed
pub mod Into
