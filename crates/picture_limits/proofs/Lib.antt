-- The laws of a picture's limits.
--     Accepted      what the tests of the size, the place and the planes' lengths say
--     Bounds        the bounds that the edges of a macroblock keep to in its plane
--     OneAnswer     each promise admits one answer only
pub mod Accepted
pub mod Bounds
pub mod OneAnswer
