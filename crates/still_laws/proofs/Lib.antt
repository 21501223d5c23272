-- Theorems about what a still is.
--     Settled       what no later turn of a loop changes
--     Digits        a pixel's place says its macroblock, its row and its column
--     Block         what stands where once a block is in its place
--     Step          what a turn does to the planes
--     First         the first n macroblocks, and which are finished
--     Answered      an answer is a refusal that draws nothing, or the picture
--     Alone         a still drawn alone is the still given the right-hand pixels that it shows
--     Neighbors     the neighbours of a finished macroblock are RFC 6386's
--     Pixels        what the planes hold: the pixels of the finished macroblocks, and all other bytes as found
--     Unread        the sub-block bytes of a macroblock that is not B change nothing
--     Walked        a macroblock that is drawn is what the walker of its luma byte answers
--     Demand3       demand 3 of each pixel of each finished macroblock
--     Known         the reply of a macroblock: 0 where its bytes are known, else 8
--     Replies       0 where all bytes are known, else 8 and the first macroblock whose bytes are not
--     Counts        at most 384 sums of a macroblock are counted, and no count of a still passes 64 bits
pub mod Settled
pub mod Digits
pub mod Block
pub mod Step
pub mod First
pub mod Answered
pub mod Alone
pub mod Neighbors
pub mod Pixels
pub mod Unread
pub mod Walked
pub mod Demand3
pub mod Known
pub mod Replies
pub mod Counts
