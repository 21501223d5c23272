-- The answer of `dequant`.
--     Answers     what a call answers and what it leaves in the lent slice
--     Turns       a block, coefficient by coefficient
pub mod Answers
pub mod Turns
