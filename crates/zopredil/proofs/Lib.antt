-- Laws for the functions of the C interface.
--     Made              what a transform made, said of the numbers that the caller gave, beside what the slices hold
--     Predicted         what a mode byte says, what is told of a prediction, and the length of the block
--     Reconstructed     a macroblock's answer, by the outcome of the tests
--     Record            a record's bytes are 81, and zeros where every edge is absent; the pixels above right
--     Gathered          each refusal of gathering, and what it leaves
--     Index             the raster index of a refused macroblock is at most 2^20, so that the number fits 64 bits
--     OneAnswer         each promise admits one answer only
pub mod Made
pub mod Predicted
pub mod Reconstructed
pub mod Record
pub mod Gathered
pub mod Index
pub mod OneAnswer
pub mod OneDistance
