-- The laws of a sub-block drawn from a line, and one answer only for the public functions.
pub mod Lines
pub mod OneAnswer
