-- Theorems about what the two walkers answer.
--     Replies      which reply is given when, and what an accepted macroblock is; 6 is never given
--     Unread       what changes no answer: bytes of an absent edge, unmarked sub-block modes, coefficients of a skipped macroblock, a Y block's own DC
--     Skipped      a skipped macroblock is its prediction
--     Uncounted    nothing is counted of a skipped or refused macroblock
--     Demand3      demand 3 of every pixel of an accepted macroblock
--     OneAnswer    each promise admits one answer only
pub mod Replies
pub mod Counts
pub mod Unread
pub mod Skipped
pub mod Uncounted
pub mod Demand3
pub mod OneAnswer
