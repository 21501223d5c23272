-- A whole still.
pub mod Picture
pub mod Answers
pub mod Fits
