-- The laws that the proofs of `planes` cite.
--     Seeded     the four blocks of a luma block row, each with its DC
--     Whole      a plane with its count
--     Counts     at most so many sums of a run are outside, and the sum over its pairs counts them
--     Runs       a part of a plane with its residues added, put back
--     Added      residues added in place, block row by block row and row by row, are the plane with its blocks added
--     OneAnswer   each promise admits one answer only
pub mod Seeded
pub mod Added
pub mod Counts
pub mod Runs
pub mod Whole
pub mod OneAnswer
