-- The answer of `predict_y16x16`.
pub mod Luma
