pub mod Bools
pub mod Sizes
pub mod Behind
