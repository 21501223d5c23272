-- What a change can reach, it reaches: no theorem of `walker_laws` and `later_laws` can leave less open.
--     SubBlocks       for each sub-block of a macroblock in mode B, all that can be reached from it
--     Macroblocks     for a macroblock of a still, the borders of what can be reached in luma and in chroma
pub mod SubBlocks
pub mod Macroblocks
