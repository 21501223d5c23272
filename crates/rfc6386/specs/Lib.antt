-- What a reader must believe: RFC 6386 for a key frame's picture, in the RFC's order and words.
--     Quantiser     9.6, 14.1   the two tables, factors, dequantising
--     MbFactors     14.1, 20.4  the six factors of a macroblock, its 25 blocks dequantised
--     Wht           14.3        the inverse Walsh-Hadamard transform
--     Dct           14.4        the inverse DCT, and the exact transform beside it
--     Residue       14.5        prediction plus residue, clamped, in a block and in a plane
--     Edges         12.2        16x16 and 8x8 prediction, over the edge's length
--     Subblock      12.3        4x4 prediction
--     Exact                     how near a pixel is to the exact one
--     Walk          14.2, 12.3  a macroblock: its luma and its chroma
--     Picture       12.2        the neighbours of a macroblock of a picture
--     LoopFilter    15          the loop filter: the pixels across an edge, an edge, a macroblock, a plane
pub mod Quantiser
pub mod MbFactors
pub mod Wht
pub mod Dct
pub mod Residue
pub mod Edges
pub mod Subblock
pub mod Exact
pub mod Walk
pub mod Picture
pub mod LoopFilter
