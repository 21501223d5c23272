-- Laws for the function of `dequant`.
--     Blocks        a block scaled in place, and all 25
--     Answers       the answer, from what the callees promise
--     Kept          a 0 stays 0; an index and deltas of a bitstream are never refused
--     OneAnswer     its promise admits one answer only
pub mod Blocks
pub mod Answers
pub mod Kept
pub mod OneAnswer
