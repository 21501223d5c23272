-- The laws that the proofs of `sub_blocks` cite.
--     Inside     no window passes an end of the work buffer
--     Windows    the pixels that a sub-block reads, one after another
--     FourRows   four rows of four stores are the sixteen of a sub-block
--     Walked     the walk by block rows is the walk sub-block by sub-block
--     OneAnswer   each promise admits one answer only
pub mod Inside
pub mod Windows
pub mod FourRows
pub mod Walked
pub mod Counts
pub mod OneAnswer
