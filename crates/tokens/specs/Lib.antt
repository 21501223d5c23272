pub mod Tokens
pub mod Walks
pub mod Answers
