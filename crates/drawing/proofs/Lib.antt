-- Theorems on a macroblock drawn from its bytes.
--     Bytes         what a mode byte says
--     Shape         every answer has its pixels, a reply of at most 8 and at most 384 sums counted
--     Unread        what changes no answer, and what is not counted
--     OneAnswer     each public promise admits one answer only
pub mod Bytes
pub mod Shape
pub mod Unread
pub mod OneAnswer
