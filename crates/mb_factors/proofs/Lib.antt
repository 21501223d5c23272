-- Laws for the functions of `mb_factors`.
--     Tables        three entries of a table, as the machine reads them
--     Sums          the five sums: what the tests say of them, and that each then fits
--     Answers       the answer, part by part: six factors, or a refusal
--     Unrefused     an index and deltas of a bitstream are never refused
--     OneAnswer     each public promise admits one answer only
pub mod Tables
pub mod Sums
pub mod Answers
pub mod Unrefused
pub mod OneAnswer
