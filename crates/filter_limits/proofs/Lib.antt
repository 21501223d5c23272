-- Laws of the limits.
pub mod Small
pub mod OneAnswer
