-- The definitions that go with the plain data of a macroblock.
pub mod Reply
pub mod Neighbors
pub mod Modes
pub mod Says
