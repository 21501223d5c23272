-- The laws that the proofs of `work_buffer` cite.
--     Down       above-right copied down, one row a turn
--     ReadOut    the luma read out row by row
--     OneAnswer   each promise admits one answer only
pub mod Down
pub mod ReadOut
pub mod OneAnswer
