-- One macroblock from its bytes.
pub mod Drawn
