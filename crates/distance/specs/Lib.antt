-- A list of stills, and how far each is from its measurement.
pub mod Stills
pub mod Answer
