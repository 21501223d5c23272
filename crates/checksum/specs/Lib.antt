-- Adler-32.
pub mod Adler
