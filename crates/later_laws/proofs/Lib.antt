-- Theorems about what may move in a still.
--     Edges      the edges of a macroblock in two planes that are the same where the edges stand
--     Made       what the walkers make in a plane, by the edges in it
--     Chroma     and in chroma, by the chroma coefficients
--     Turns      one call: a finished macroblock at its turn and in the end
--     Reached    two calls: the macroblocks of a closed set
--     Steady     the right-hand pixels, given or read
--     Before     two calls that are given the same before macroblock k
--     Counted    what they count before k
--     Cones      what a change of macroblock k cannot reach
--     Later      nothing later touches anything earlier: two calls of `still`, two of `still_alone`
pub mod Edges
pub mod Made
pub mod Chroma
pub mod Turns
pub mod Reached
pub mod Steady
pub mod Before
pub mod Counted
pub mod Cones
pub mod Later
