pub mod Defaults
pub mod Answers
