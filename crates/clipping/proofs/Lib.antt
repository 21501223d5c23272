-- Laws of the counts.
--     Counted      when a sum is counted: exactly where the pixel is not the sum itself
--     Pixels       the same of the pixels of a block, a plane and a sub-block
--     Blocks       a block, and that an AC-free one counts the same by either way
--     Skipped      nothing is counted where the coefficients are skipped
--     Bounds       at most 16 a block, 384 a macroblock, and no count of a still passes 64 bits
--     OneAnswer    each public promise admits one answer only
pub mod Counted
pub mod Pixels
pub mod Blocks
pub mod Skipped
pub mod Bounds
pub mod OneAnswer
