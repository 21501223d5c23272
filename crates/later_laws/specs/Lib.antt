-- The words of the theorems on what may move in a still.
pub mod Calls
