-- What gathering answers, and a name for its steps.
pub mod Steps
pub mod Answers
