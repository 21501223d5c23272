-- Names for the steps of the inverse DCT in this crate.
pub mod Turns
