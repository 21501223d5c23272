-- The four pixels above right of the last column.
pub mod Answers
