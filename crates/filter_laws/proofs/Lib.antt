-- Theorems about the loop filter.
--     Planes       no pixel of a plane beyond the reach of its filtered edges changes
--     Answers      the same of what the calls answer
--     OneLevel     the call with one level is the call with that level for each macroblock
pub mod Planes
pub mod Answers
pub mod OneLevel
