pub mod Default
pub mod Zeros
pub mod OneAnswer
