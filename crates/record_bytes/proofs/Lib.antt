-- The laws of the neighbour record's bytes.
--     Laid       what the steps that lay the bytes down come to
--     OneAnswer  each promise admits one answer only
--     Read       reading the bytes of a record gives the record back
pub mod Laid
pub mod Read
pub mod OneAnswer
