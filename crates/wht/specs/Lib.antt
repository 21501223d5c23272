-- The steps of the inverse WHT as the code takes them.
pub mod Pass
