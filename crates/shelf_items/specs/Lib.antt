-- A shelf of loose macroblocks.
pub mod Shelf
pub mod Steps
