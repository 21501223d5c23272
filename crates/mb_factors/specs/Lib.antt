-- The answer of `MbDequantFactors::from_base_and_deltas`.
--     Factors     the six factors, or a refusal
--     Entries     an entry of a table
pub mod Factors
pub mod Entries
