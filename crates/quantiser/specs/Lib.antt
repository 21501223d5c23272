-- The answer of `Y1DequantFactors::from_indices`.
pub mod Factors
