-- Laws for the functions of `residue`, and its theorems.
--     Sums          a loop of sums, one pixel a turn
--     Geometry      when a block lies in a plane, and what the code's divisions say of it
--     AcFree        the test for AC coefficients
--     Part          sums made in the part of a plane that starts at the block, said of the plane
--     Counted       the count of a block's sums, made in that part, said of the plane
--     Answers       what a public function answers and leaves, by the outcome of its test
--     Accepted      a block is accepted exactly by the rule in whole numbers without bound
--     Pixels        the plane after a block's residue is added, byte by byte
--     Counts        what is counted of a block: at most 16, nothing where it is refused, the same with and without the transform
--     OneAnswer     each public promise admits one answer only
pub mod Sums
pub mod Geometry
pub mod AcFree
pub mod Part
pub mod Counted
pub mod Answers
pub mod Accepted
pub mod Pixels
pub mod Counts
pub mod OneAnswer
