-- The words of the theorems on a shelf.
pub mod Words
