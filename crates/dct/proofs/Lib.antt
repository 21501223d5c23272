-- The laws behind the inverse DCT of this crate.
--     Steps      what a turn of each loop stores is what its definition says
--     Blocks     what the loops make together is what the RFC says
pub mod Steps
pub mod Blocks
pub mod OneAnswer
