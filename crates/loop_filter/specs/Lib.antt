-- The definitions that the contracts of `loop_filter` cite.
pub mod Picture
pub mod Answers
