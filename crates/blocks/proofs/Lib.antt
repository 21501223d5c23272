-- The laws about what `blocks` takes and transforms.
--     Places     which residue of four blocks stands where
--     OneAnswer   each promise admits one answer only
pub mod Places
pub mod OneAnswer
