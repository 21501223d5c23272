-- The laws about what RFC 6386 says.
--     Quantiser    the two tables never fall; each index gives a factor of its table; a block dequantised, coefficient by coefficient
--     MbFactors    the range of each factor of a macroblock; its blocks dequantised, coefficient by coefficient
--     Wht          no sum of the inverse WHT leaves 2^20; the DC-only form is the whole transform of a block without AC
--     DctPass      one pass of the inverse DCT: nothing wraps, every number on the way is one of 32 bits, how far it grows
--     DctRange     a block with every coefficient from -8191 to 8191: nothing wraps or narrows, 32 or 16 bits between the passes
--     DctBlocks    the inverse DCT as a list: its length, and which residue stands where, of one block and of four
--     DctDc        a block whose other fifteen coefficients are 0
--     DctNear      how far the inverse DCT in whole numbers lies from the exact one, for every block
--     Demand3      the same of a pixel, as the machine makes it
--     Tm           TM in numbers that are never negative
--     Edges        16x16 and 8x8 prediction: TM from the H and V blocks, what an absent edge does, lengths
--     Subblock     4x4 prediction: Dc and Tm are the same rules, its length
--     Sums         the sum of an edge, pixel by pixel
--     Planes       a plane predicted whole: one pixel, what it depends on
--     Parts        the luma of mode B: a pixel of sub-block k is the one that turn k put
--     Absent       the bytes of an absent edge are read nowhere
--     Unused       what changes no plane: the coefficients of a skipped macroblock, a seeded block's own first coefficient
--     Demand3Planes  demand 3 of each pixel of a plane, and of a sub-block
--     Pictures     the decay pictures that we already know, as one computed table
--     FilterKeeps  which of the eight pixels across an edge each loop filter leaves as they are
--     FilterReach  no pixel beyond a filter's reach changes, at an edge of either direction; a plane keeps its length
pub mod Quantiser
pub mod MbFactors
pub mod Wht
pub mod DctPass
pub mod DctRange
pub mod DctBlocks
pub mod DctDc
pub mod DctNear
pub mod Demand3
pub mod Tm
pub mod Edges
pub mod Subblock
pub mod Sums
pub mod Planes
pub mod Parts
pub mod Absent
pub mod Unused
pub mod Demand3Planes
pub mod Pictures
pub mod FilterKeeps
pub mod FilterReach
