-- The definitions that the contract of `filtered_still` cites.
pub mod Answers
