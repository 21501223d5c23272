-- The words of the theorems on a still.
pub mod Words
