-- The laws of a checksum.
--     OneAnswer   each promise admits one answer only
pub mod OneAnswer
