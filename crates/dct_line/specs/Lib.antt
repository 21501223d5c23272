-- The definitions that the contracts of `dct_line` cite.
pub mod Lines
