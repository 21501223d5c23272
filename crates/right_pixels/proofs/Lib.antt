-- The laws of the right-hand pixels.
--     Accepted      what the test of the row says
--     Copies        all of it, of every answer that the promise admits
--     OneAnswer     the promise admits one answer only
pub mod Accepted
pub mod Copies
pub mod OneAnswer
