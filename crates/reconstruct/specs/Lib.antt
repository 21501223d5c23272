-- What the two walkers answer.
pub mod Answers
