-- Laws of a still that is drawn, then filtered.
pub mod Two
pub mod OneAnswer
